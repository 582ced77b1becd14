-- `pages` meets its contract: after d turns the pages of the first d directory entries were tried.
use Prim.Native.Nat.{◌*◌}
use mathlib.Core.Path.{◌≡◌}
use native.Mathlib.Omega.{arith}
use Rattle.std.proofs.lemmas.Result.{err_from_is_err_and}
use Rattle.pages.specs.declared.Kind.TheVariants.{Page, Directory}
use Rattle.pages.specs.Tables.{entries, level_size, found_from, found_in}
use Rattle.pages.proofs.Tried.{returned, tried_none, table_more, table_stops}
use Rattle.pages.proofs.levels.Walker.pages.Goals as goal

pub loop-d-init : goal.loop-d-init
unfolding found_from
loop-d-init c = tried_none _ _ _

pub returns-in_err-progress : goal.returns-in_err-progress
unfolding found_in
returns-in_err-progress c =
    returned _ _ _ _ (err_from_is_err_and c.from_residual.result c.from_residual.ensures.1)
    (table_stops _ _ _ _ _ _ _ (level_size Directory) _ (omega arith) c.loop-d.invariant c.in_err-progress.ensures)

pub loop-d-preserved : goal.loop-d-preserved
loop-d-preserved c = table_more _ _ _ _ _ _ _ _ c.loop-d.invariant c.in_ok-progress.ensures

pub returns : goal.returns
unfolding found_in
returns c =
    let all : entries * c.loop-d.d ≡ level_size Page = omega arith in
    rw all at c.loop-d.invariant
