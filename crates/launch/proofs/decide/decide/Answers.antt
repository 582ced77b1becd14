-- `decide` meets its contract: rules 23 to 25, and what is left.
use mathlib.Core.Path.{ap, sym, ◌∙◌}
use Rattle.std.proofs.lemmas.Result.{err_from_is_err_and}
use Rattle.std.specs.Prelude.{Ok}
use Rattle.rules.specs.Refusal.{numbered}
use Rattle.launch.proofs.Deciding.{record_stops, record_any, record_list, returned_early}
use Rattle.launch.proofs.decide.decide.Goals as goal

pub returns-in_err-kind : goal.returns-in_err-kind
returns-in_err-kind c =
    let p = err_from_is_err_and c.from_residual.result c.from_residual.ensures.1 in
    returned_early p ∙ record_stops _ _ _ _ _ (sym c.kind.ensures ∙ ap numbered c.in_err-kind.was)

pub returns-in-Any : goal.returns-in-Any
returns-in-Any c = c.by_any.ensures ∙ record_any _ _ _ _ (sym c.kind.ensures ∙ ap numbered (c.in_ok-kind.was ∙ ap Ok c.in-Any.is))

pub returns-in-List : goal.returns-in-List
returns-in-List c = c.by_lists.ensures ∙ record_list _ _ _ _ (sym c.kind.ensures ∙ ap numbered (c.in_ok-kind.was ∙ ap Ok c.in-List.is))
