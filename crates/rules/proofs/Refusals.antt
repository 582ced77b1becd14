-- What is refused and what goes on, by the rules: the laws of `require` and of answers that stop with a refusal.
use Prim.Native.Nat.{ℕ, ◌<◌}
use mathlib.Core.Path.{◌≡◌, refl, ap, sym, ◌∙◌}
use mathlib.Core.Logic.{◌↔◌}
use mathlib.Core.Bool.{Bool, true, false, cond}
use mathlib.Core.List.{List}
use native.Mathlib.Omega.{arith}
use lib.Dec.{lit<}
use Rattle.std.specs.Prelude.{⊤, Result, Ok, Err}
use Rattle.rules.specs.declared.refusal.Refusal.{Refusal}
use Rattle.rules.specs.declared.refusal.Refusal.TheVariants as refusals
use Rattle.rules.specs.Refusal.{number, place, number_of, numbered, failing}
use Rattle.rules.specs.Rules.{Rule, answer_for, answer_by}
use Rattle.rules.specs.Meaning.{Meaning, FirstBroken}
use Rattle.rules.proofs.Meaning.{Agree}
use Rattle.rules.proofs.Answers.{for_zero, for_other, value_exactly, number_exactly, number_means, number_of_lem}

-- no refusal has the number 0
pub number_not_0 : (r : Refusal) → 0 < number r
number_not_0 refusals.Limits = lit< tt
number_not_0 refusals.HeapParts = lit< tt
number_not_0 refusals.OsSinitData = lit< tt
number_not_0 refusals.HeapElements = lit< tt
number_not_0 refusals.Pmr = lit< tt
number_not_0 refusals.ModulePlace = lit< tt
number_not_0 refusals.ModuleHeader = lit< tt
number_not_0 refusals.ModuleEntry = lit< tt
number_not_0 refusals.ModuleTable = lit< tt
number_not_0 refusals.Chipset = lit< tt
number_not_0 refusals.OsSinitDataVersion = lit< tt
number_not_0 refusals.MleSize = lit< tt
number_not_0 refusals.PageList = lit< tt
number_not_0 refusals.EntryBits = lit< tt
number_not_0 refusals.OutsideWindow = lit< tt
number_not_0 refusals.NotAscending = lit< tt
number_not_0 refusals.ForbiddenRange = lit< tt
number_not_0 refusals.TablePages = lit< tt
number_not_0 refusals.LinearGap = lit< tt
number_not_0 refusals.NotProtected = lit< tt
number_not_0 refusals.PageCount = lit< tt
number_not_0 refusals.MleHeader = lit< tt
number_not_0 refusals.PolicyRecord = lit< tt
number_not_0 refusals.NotProduction = lit< tt
number_not_0 refusals.ModuleVersion = lit< tt
number_not_0 refusals.PolicyPlace = lit< tt
number_not_0 (refusals.PolicyGrammar p) = lit< tt
number_not_0 refusals.PolicyHash = lit< tt
number_not_0 refusals.NoList = lit< tt
number_not_0 refusals.Capture = lit< tt
number_not_0 refusals.PolicyDescription = lit< tt
number_not_0 refusals.PolicySize = lit< tt
number_not_0 refusals.PolicyRoom = lit< tt

-- a place goes with 27 alone
pub no_place : (r : Refusal) → (number r ≡ 27 → ⊥) → place r ≡ 0
no_place (refusals.PolicyGrammar p) h = absurd (h refl)
no_place r h = refl

-- ONE RULE

abbrev pub Step : Type 0
Step = Result ⊤ Refusal

not_both : {e : Refusal} {u : ⊤} → ◌≡◌ {A = Step} (Ok u) (Err e) → ⊥
not_both z = cc

same_refusal : {m n : Refusal} → ◌≡◌ {A = Step} (Err m) (Err n) → m ≡ n
same_refusal z = cc

-- `require` stops with the refusal of a rule that fails, and goes on where it holds
pub stops : (b : Bool) (x : Refusal) {e : Refusal} {r : Step} → r ≡ cond b (Ok tt) (Err x) → r ≡ Err e → (b ≡ false) × (e ≡ x)
stops true x q h = absurd (not_both (sym q ∙ h))
stops false x q h = (refl, same_refusal (sym h ∙ q))

pub goes_on : (b : Bool) (x : Refusal) (u : ⊤) {r : Step} → r ≡ cond b (Ok tt) (Err x) → r ≡ Ok u → b ≡ true
goes_on true x u q h = refl
goes_on false x u q h = absurd (not_both (sym h ∙ q))

-- WHAT A `?` RETURNS: the refusal that came from the stage before it

module _ {A : Type 0} where
  abbrev Returned : Result A Refusal → Refusal → Type 0
  Returned r e = (y : Refusal) × (r ≡ Err y) × (y ≡ e)

  pub returned : {r : Result A Refusal} {e : Refusal} → Returned r e → numbered r ≡ Err (number e)
  returned p = ap numbered (p.1 ∙ ap Err p.2)

  -- from another stage that gives a value or refuses
  pub returned_from : {B : Type 0} {r : Result A Refusal} {s : Result B Refusal} {e : Refusal} {m : Result B ℕ} → Returned r e → s ≡ Err e → numbered s ≡ m
      → (numbered r ≡ Err (number e)) × (m ≡ Err (number e))
  returned_from p was is = (returned p, sym is ∙ ap numbered was)

  -- from `require`
  pub returned_required : (b : Bool) (x : Refusal) {r : Result A Refusal} {s : Step} {e : Refusal} → Returned r e → s ≡ cond b (Ok tt) (Err x) → s ≡ Err e
      → (b ≡ false) × (numbered r ≡ Err (number x))
  returned_required b x p is was =
      let h = stops b x is was in
      (h.0, returned p ∙ ap (λ (y : Refusal). Err (number y)) h.1)

-- ANSWERS BY RULES: a value where all hold, else the number of the first that fails

module _ {A : Type 0} where
  same_number : {m n : ℕ} → ◌≡◌ {A = Result A ℕ} (Err m) (Err n) → m ≡ n
  same_number e = cc

  same_value : {a b : A} → ◌≡◌ {A = Result A ℕ} (Ok a) (Ok b) → a ≡ b
  same_value e = cc

  never : {a : A} {n : ℕ} → ◌≡◌ {A = Result A ℕ} (Ok a) (Err n) → ⊥
  never e = cc

  module _ (a : A) where
    -- by the number
    pub value_by : (x : A) (k : ℕ) → (answer_for Err (Ok a) k ≡ Ok x) ↔ ((k ≡ 0) × (a ≡ x))
    value_by x k =
        let h = value_exactly Err (Ok a) (Ok x) (λ n e. never (sym e)) k in
        (λ e. (let p = h.0 e in (p.0, same_value p.1)), λ p. h.1 (p.0, ap Ok p.1))

    pub refused_by : (k n : ℕ) → (answer_for Err (Ok a) k ≡ Err n) ↔ ((0 < n) × (k ≡ n))
    refused_by k n = number_exactly Err (Ok a) (λ m e. never e) (λ m n e. same_number e) k n

    pub number_by : (k : ℕ) → number_of (answer_for Err (Ok a) k) ≡ k
    number_by k = number_of_lem Err (Ok a) number_of refl (λ n. refl) k

    -- a stage that stops gives its refusal, and after the last there is the value
    module _ (k : ℕ) where
      pub refusal_by : (e : Refusal) → number e ≡ k → numbered {A = A} (Err e) ≡ answer_for Err (Ok a) k
      refusal_by e f = sym (ap (answer_for Err (Ok a)) (sym f) ∙ for_other Err (Ok a) (number e) (λ h. omega (arith, number_not_0 e)))

      pub value_after : 0 ≡ k → numbered (Ok a) ≡ answer_for Err (Ok a) k
      value_after f = sym (for_zero Err (Ok a) k (sym f))

      -- where a stage before stops
      pub refusal_at : {r : Result A Refusal} {e : Refusal} → Returned r e → number e ≡ k → numbered r ≡ answer_for Err (Ok a) k
      refusal_at {r} {e} p f = returned p ∙ refusal_by e f

    -- by what the rules mean
    module _ (rs : List Rule) (ps : List Meaning) (agree : Agree rs ps) where
      pub refused_means : (n : ℕ) → (answer_by Err (Ok a) rs ≡ Err n) ↔ FirstBroken ps n
      refused_means n = number_means Err (Ok a) rs ps agree (λ m e. never e) (λ m n e. same_number e) n

-- WHERE `require` STOPPED OR WENT ON, by what it ensures of its result

pub failed : (b : Bool) (x : Refusal) {e : Refusal} → ◌≡◌ {A = Step} (Err e) (cond b (Ok tt) (Err x)) → (b ≡ false) × (e ≡ x)
failed b x q = stops b x q refl

pub held : (b : Bool) (x : Refusal) {u : ⊤} → ◌≡◌ {A = Step} (Ok u) (cond b (Ok tt) (Err x)) → b ≡ true
held b x {u} q = goes_on b x u q refl

-- what a `?` returns where a rule fails: its refusal
pub rule_at : {A : Type 0} (a : A) (k : ℕ) (b : Bool) (x : Refusal) {r : Result A Refusal} {e : Refusal}
    → ((y : Refusal) × (r ≡ Err y) × (y ≡ e)) → ◌≡◌ {A = Step} (Err e) (cond b (Ok tt) (Err x)) → (b ≡ false → number x ≡ k)
    → numbered r ≡ answer_for Err (Ok a) k
rule_at a k b x p q f = let h = failed b x q in refusal_at a k p (ap number h.1 ∙ f h.0)

-- THE NUMBER of a chain of `require`: a rule that held leaves it to the later ones, and the last one gives it

pub rule_held : (b t : Bool) (x : Refusal) (n later k : ℕ) {u : ⊤} → ◌≡◌ {A = Step} (Ok u) (cond b (Ok tt) (Err x)) → b ≡ t → n ≡ later → n ≡ cond t later k
rule_held b t x n later k q e f = rw (sym e ∙ held b x q) f

pub rule_last : (b t : Bool) (x : Refusal) {r : Step} → r ≡ cond b (Ok tt) (Err x) → b ≡ t → failing r ≡ cond t 0 (number x)
rule_last true t x q e = rw (q, ← e)
rule_last false t x q e = rw (q, ← e)
