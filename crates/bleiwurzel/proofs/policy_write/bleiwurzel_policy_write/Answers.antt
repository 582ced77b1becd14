-- `bleiwurzel_policy_write` meets its contract: the fields of what the writer answers.
use mathlib.Core.Path.{ap, sym, ◌∙◌}
use Rattle.rules.specs.Refusal.{numbered}
use Rattle.bleiwurzel.proofs.Answers.{as_written}
use Rattle.bleiwurzel.proofs.policy_write.bleiwurzel_policy_write.Goals as goal

pub returns-in-Ok : goal.returns-in-Ok
returns-in-Ok c =
    let said = as_written (sym (ap numbered c.in-Ok.is) ∙ c.write.ensures.answer) c.write.ensures.buffer in
    record { number = said.0; file = said.1.0; length = said.1.1.0; «record» = said.1.1.1 }

pub returns-in-Err : goal.returns-in-Err
returns-in-Err c =
    let said = as_written (sym (ap numbered c.in-Err.is) ∙ c.write.ensures.answer) c.write.ensures.buffer in
    record { number = c.number.ensures ∙ said.0; file = said.1.0; length = said.1.1.0; «record» = said.1.1.1 }
