-- `by_lists` meets its contract: rules 26 to 28, and what is left.
use mathlib.Core.Path.{◌≡◌, refl, sym, ◌∙◌}
use native.Mathlib.Omega.{arith}
use Rattle.std.proofs.lemmas.Result.{err_from_is_err_and}
use Rattle.rules.specs.declared.refusal.Refusal.TheVariants as refusals
use Rattle.rules.proofs.Refusals.{number_not_0, stops, goes_on}
use Rattle.launch.proofs.Deciding.{not_placed, file_refuses, file_passes, returned_early}
use Rattle.rules.specs.declared.refusal.Refusal.{Refusal}
use Rattle.rules.specs.Refusal.{number}
use Rattle.launch.proofs.decide.by_lists.Goals as goal

not_none : (r : Refusal) → number r ≡ 0 → ⊥
not_none r e = omega (arith, number_not_0 r)

pub returns-in_err-require : goal.returns-in_err-require
returns-in_err-require c =
    let r = stops _ refusals.PolicyPlace c.require.ensures c.in_err-require.was in
    returned_early (err_from_is_err_and c.from_residual.result c.from_residual.ensures.1)
    ∙ rw r.1 (not_placed _ _ _ _ (sym c.file_placed.ensures ∙ r.0))

pub returns-in_err-judge_file : goal.returns-in_err-judge_file
returns-in_err-judge_file c =
    let placed = sym c.file_placed.ensures ∙ goes_on _ _ _ c.require.ensures c.in_ok-require.was in
    returned_early (err_from_is_err_and c.from_residual-in_err-judge_file.result c.from_residual-in_err-judge_file.ensures.1)
    ∙ file_refuses _ _ _ _ placed _ _ c.file-file.ensures c.in_err-judge_file.ensures (not_none c.in_err-judge_file.field-0.0)

pub returns : goal.returns
returns c =
    let placed = sym c.file_placed.ensures ∙ goes_on _ _ _ c.require.ensures c.in_ok-require.was in
    c.by_file.ensures ∙ file_passes _ _ _ _ placed _ _ c.file-file.ensures c.in_ok-judge_file.ensures refl
