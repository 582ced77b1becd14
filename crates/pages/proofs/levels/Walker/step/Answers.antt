-- `step` meets its contract: an entry that is absent changes nothing, one that breaks a rule refuses, and any other is counted.
use mathlib.Core.Path.{sym, ◌∙◌}
use Rattle.std.proofs.lemmas.Result.{err_from_is_err_and}
use Rattle.pages.proofs.Tried.{returned, step_absent, step_fault, step_passed, above, room}
use Rattle.pages.proofs.levels.Walker.step.Goals as goal

pub returns-then-not-present : goal.returns-then-not-present
returns-then-not-present c = step_absent _ _ _ _ _ _ (sym c.present.ensures ∙ c.if-not-present.true)

pub returns-in_err-judge_entry : goal.returns-in_err-judge_entry
returns-in_err-judge_entry c =
    returned _ _ _ _ (err_from_is_err_and c.from_residual.result c.from_residual.ensures.1)
    (step_fault _ _ _ _ _ _ _ (sym c.present.ensures ∙ c.if-not-present.false) c.in_err-judge_entry.ensures)

pub with_entry-requires : goal.with_entry-requires
with_entry-requires c =
    let none = c.in_ok-judge_entry.ensures in
    record { above = rw c.address.ensures (above _ _ _ _ _ _ none); room = room _ _ _ _ _ _ none; in_level = c.requires }

pub returns : goal.returns
returns c =
    step_passed _ _ _ _ _ _ _ (sym c.present.ensures ∙ c.if-not-present.false) c.in_ok-judge_entry.ensures
    (rw c.address.ensures at c.with_entry.ensures)
