-- Both stages in turn give the answer of the specification, and the page list by it.
use Prim.Native.Nat.{ℕ, ◌≤◌}
use mathlib.Core.Path.{◌≡◌, refl, ◌∙◌, ap}
use mathlib.Core.List.{List}
use lib.Dec.{lit<}
use Rattle.rules.specs.Rules.{Rule, first_failing, answer_for, answer_by}
use Rattle.rules.proofs.Rules.{numbers_not_0, number_most}
use Rattle.rules.proofs.Refusals.{no_place}
use Rattle.rules.specs.declared.refusal.Refusal.{Refusal}
use Rattle.rules.specs.Refusal as refusals
use native.Mathlib.Omega.{arith}
use Rattle.rules.proofs.Answers.{made_of, group_passes}
use Rattle.mle.specs.Image.{page_list}
use Rattle.mle.proofs.Pages.{page_list_none}
use Rattle.launch.specs.declared.Found.{Found}
use Rattle.std.specs.Prelude.{Ok, Err}
use Rattle.launch.specs.Rules.{Input, found, find_rules, decide_rules, rules}
use Rattle.launch.specs.Answer.{answer_of, places_of, measurement_of, list_for}
use Rattle.launch.specs.Inner.{Outcome, no_image, early_refusal, refusal, permission, find_stage, decide_stage, outcome_of}
use Rattle.launch.proofs.Finding.{refused_by, complete_by}
use Rattle.launch.proofs.Deciding.{unplaced_refuses}
use Rattle.launch.proofs.Order.{find_group}

module _ (i : Input) where
  abbrev refusing : ℕ → Outcome
  refusing = refusal i.window (found i)

  abbrev outcome : Outcome
  outcome = permission i.window (found i) (list_for i.window i.policy_record i.stm (found i))

  abbrev later : List Rule
  later = decide_rules i.window i.policy_record i.stm (found i)

  pub find_refuses : (n : ℕ) → find_stage i ≡ Err n → early_refusal n 0 ≡ outcome_of i
  unfolding find_stage outcome_of rules
  find_refuses n e =
      let a = refused_by (find_rules i) (found i) n e in
      unplaced_refuses i.window (found i) outcome 1 22 (find_rules i) later (find_group i).numbers n (lit< tt) a.0 a.1

  -- by a refusal, which has no place since its number is no 27
  pub find_stops : (r : Refusal) → find_stage i ≡ Err (refusals.number r) → early_refusal (refusals.number r) (refusals.place r) ≡ outcome_of i
  unfolding find_stage
  find_stops r e =
      let a = refused_by (find_rules i) (found i) (refusals.number r) e in
      let below : refusals.number r ≤ 22 = omega (arith, a.1, number_most 1 22 (find_rules i) (find_group i).numbers) in
      ap (early_refusal (refusals.number r)) (no_place r (λ z. omega arith)) ∙ find_refuses (refusals.number r) e

  pub find_passes : (f : Found) → find_stage i ≡ Ok f → decide_stage i.window i.policy_record i.stm f ≡ outcome_of i
  unfolding find_stage decide_stage outcome_of rules
  find_passes f e =
      let a = complete_by (find_rules i) (found i) f e in
      rw a.1 (group_passes refusing outcome (find_rules i) later (numbers_not_0 1 22 (find_rules i) (lit< tt) (find_group i).numbers) a.0)

  -- what an outcome shows
  shows : {A : Type 0} (show : Outcome → A) (v : Outcome) → v ≡ outcome_of i → show v ≡ answer_by (λ (n : ℕ). show (refusing n)) (show outcome) (rules i)
  unfolding outcome_of
  shows show v e = ap show e ∙ made_of refusing outcome show (first_failing (rules i))

  pub answer_is : (v : Outcome) → v ≡ outcome_of i → v.answer ≡ answer_of i
  unfolding answer_of
  answer_is v e = shows (λ (u : Outcome). u.answer) v e

  pub measurement_is : (v : Outcome) → v ≡ outcome_of i → v.measurement ≡ measurement_of i
  unfolding measurement_of
  measurement_is v e = shows (λ (u : Outcome). u.measurement) v e

  module _ (places : List ℕ) where
    abbrev written : Outcome → List ℕ
    written v = page_list i.window v.image places

    kept : (n : ℕ) → answer_for (λ (k : ℕ). written (refusing k)) (written outcome) n ≡ answer_for (λ (k : ℕ). places) (written outcome) n
    kept n = ap (λ (p : List ℕ). answer_for (λ (k : ℕ). p) (written outcome) n) (page_list_none i.window no_image places refl)

    pub places_are : (v : Outcome) → v ≡ outcome_of i → written v ≡ places_of i places
    unfolding places_of
    places_are v e = shows written v e ∙ kept (first_failing (rules i))
