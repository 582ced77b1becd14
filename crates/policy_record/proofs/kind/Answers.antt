-- `kind` meets its contract: the first rule that fails refuses the record, else its type gives the kind.
use mathlib.Core.Path.{sym, ◌∙◌}
use borrow.Author.Tests.{eq-eqb, ne_eqb}
use Rattle.std.proofs.lemmas.Result.{err_from_is_err_and}
use Rattle.rules.proofs.Refusals.{refusal_at, value_after}
use Rattle.policy_record.specs.Record.{LIST}
use Rattle.policy_record.specs.Answers.{record_of}
use Rattle.policy_record.proofs.kind.Goals as goal

pub returns-in_err-judge : goal.returns-in_err-judge
unfolding record_of
returns-in_err-judge c = refusal_at _ _ (err_from_is_err_and c.from_residual.result c.from_residual.ensures.1) c.in_err-judge.ensures

pub returns-then-policy_type-eq-LIST : goal.returns-then-policy_type-eq-LIST
unfolding record_of
returns-then-policy_type-eq-LIST c =
    rw (eq-eqb _ LIST (sym c.policy_type.ensures ∙ c.if-policy_type-eq-LIST.true)) (value_after _ _ c.in_ok-judge.ensures)

pub returns : goal.returns
unfolding record_of
returns c = rw (ne_eqb _ LIST (λ e. c.if-policy_type-eq-LIST.false (c.policy_type.ensures ∙ e))) (value_after _ _ c.in_ok-judge.ensures)
