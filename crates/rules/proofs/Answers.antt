-- Answers by rules: which number gives which answer, what the rules tried first leave to the later ones, and the answers by what the rules mean.
use Prim.Native.Nat.{ℕ, zero, suc, ◌<◌}
use mathlib.Core.Path.{◌≡◌, refl, ap, sym, ◌∙◌}
use mathlib.Core.Logic.{◌↔◌}
use mathlib.Core.Bool.{Bool, true, false}
use mathlib.Core.List.{List, ◌∷◌, ◌++◌}
use native.Mathlib.Omega.{arith}
use Rattle.rules.specs.Rules.{Rule, rule, first_failing, answer_for, answer_by}
use Rattle.rules.specs.Meaning.{Meaning, FirstBroken}
use Rattle.rules.proofs.Rules.{Numbered, all_exactly, passed, stopped}
use Rattle.rules.proofs.Meaning.{Agree, in_turn, broken_number, broken_exactly}

module _ {A : Type 0} (refused : ℕ → A) (a : A) where
  -- BY THE NUMBER

  pub for_zero : (n : ℕ) → n ≡ 0 → answer_for refused a n ≡ a
  unfolding answer_for
  for_zero zero e = refl
  for_zero (suc n) e = absurd (omega arith)

  pub for_other : (n : ℕ) → (n ≡ 0 → ⊥) → answer_for refused a n ≡ refused n
  unfolding answer_for
  for_other zero h = absurd (h refl)
  for_other (suc n) h = refl

  -- what is made of an answer
  pub made_of : {B : Type 0} (make : A → B) (n : ℕ) → make (answer_for refused a n) ≡ answer_for (λ (k : ℕ). make (refused k)) (make a) n
  unfolding answer_for
  made_of make zero = refl
  made_of make (suc n) = refl

  -- what looks at an answer shows its number
  pub number_of_lem : (number : A → ℕ) → number a ≡ 0 → ((n : ℕ) → number (refused n) ≡ n) → (n : ℕ) → number (answer_for refused a n) ≡ n
  unfolding answer_for
  number_of_lem number z r zero = z
  number_of_lem number z r (suc n) = r (suc n)

  -- BY THE RULES THAT ARE LEFT

  pub refuses : (rs : List Rule) (n : ℕ) → 0 < n → first_failing rs ≡ n → refused n ≡ answer_by refused a rs
  refuses rs n z e = sym (ap (answer_for refused a) e ∙ for_other n (λ h. omega arith))

  pub permits : (rs : List Rule) → first_failing rs ≡ 0 → a ≡ answer_by refused a rs
  permits rs e = sym (for_zero (first_failing rs) e)

  -- a group of rules before others
  module _ (rs later : List Rule) where
    pub group_refuses : (n : ℕ) → 0 < n → first_failing rs ≡ n → refused n ≡ answer_by refused a (rs ++ later)
    group_refuses n z e = refuses (rs ++ later) n z (stopped rs later n z e)

    pub group_passes : Numbered rs → first_failing rs ≡ 0 → answer_by refused a later ≡ answer_by refused a (rs ++ later)
    group_passes m e = ap (answer_for refused a) (sym (passed rs later ((all_exactly rs m).0 e)))

  -- one rule before others
  module _ (n : ℕ) (b : Bool) (later : List Rule) where
    pub rule_refuses : 0 < n → b ≡ false → refused n ≡ answer_by refused a (rule n b ∷ later)
    rule_refuses z e = refuses (rule n b ∷ later) n z (rw e)

    pub rule_passes : b ≡ true → answer_by refused a later ≡ answer_by refused a (rule n b ∷ later)
    rule_passes e = rw e

-- BY WHAT THE RULES MEAN, where a refusal is no value, and its number is seen in it

module _ {A : Type 0} (refused : ℕ → A) (a : A) where
  pub value_exactly : (x : A) → ((n : ℕ) → refused n ≡ x → ⊥) → (n : ℕ) → (answer_for refused a n ≡ x) ↔ ((n ≡ 0) × (a ≡ x))
  unfolding answer_for
  value_exactly x never zero = (λ e. (refl, e), λ h. h.1)
  value_exactly x never (suc n) = (λ e. absurd (never (suc n) e), λ h. absurd (omega arith))

  pub number_exactly : ((n : ℕ) → a ≡ refused n → ⊥) → ((m n : ℕ) → refused m ≡ refused n → m ≡ n) → (k n : ℕ)
      → (answer_for refused a k ≡ refused n) ↔ ((0 < n) × (k ≡ n))
  unfolding answer_for
  number_exactly never same zero n = (λ e. absurd (never n e), λ h. absurd (omega arith))
  number_exactly never same (suc k) n = (λ e. let h = same (suc k) n e in (omega arith, h), λ h. ap refused h.1)

  module _ (rs : List Rule) (ps : List Meaning) (agree : Agree rs ps) where
    pub number_means : ((n : ℕ) → a ≡ refused n → ⊥) → ((m n : ℕ) → refused m ≡ refused n → m ≡ n) → (n : ℕ)
        → (answer_by refused a rs ≡ refused n) ↔ FirstBroken ps n
    number_means never same n =
        let turn = in_turn rs ps agree in
        let number = number_exactly never same (first_failing rs) n in (
          λ e. let h = number.0 e in (broken_exactly rs ps turn n h.0).0 h.1,
          λ b. let z = broken_number rs ps turn n b in number.1 (z, (broken_exactly rs ps turn n z).1 b),
        )
