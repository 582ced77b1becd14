-- `span` meets its contract: after i turns the first i entries were tried.
use mathlib.Core.Path.{◌≡◌}
use native.Mathlib.Omega.{arith}
use Rattle.std.proofs.lemmas.Result.{err_from_is_err_and}
use Rattle.pages.specs.Tables.{found_from}
use Rattle.pages.proofs.Tried.{returned, tried_none, span_more, span_stops}
use Rattle.pages.proofs.levels.Walker.span.Goals as goal

pub loop-i-init : goal.loop-i-init
unfolding found_from
loop-i-init c = tried_none _ _ _

pub returns-in_err-progress : goal.returns-in_err-progress
returns-in_err-progress c =
    returned _ _ _ _ (err_from_is_err_and c.from_residual.result c.from_residual.ensures.1)
    (span_stops _ _ _ _ _ _ _ _ _ _ _ (omega arith) c.loop-i.invariant c.in_err-progress.ensures c.entry-e.ensures)

pub loop-i-preserved : goal.loop-i-preserved
loop-i-preserved c = span_more _ _ _ _ _ _ _ _ _ _ c.loop-i.invariant c.in_ok-progress.ensures c.entry-e.ensures

pub returns : goal.returns
returns c =
    let all : c.loop-i.i ≡ c.args.n = omega arith in
    rw all at c.loop-i.invariant
