-- Tests and the propositions that they say: one test, two that are joined, and a list of them; and tests that the code makes in order.
use Prim.Native.Nat.{ℕ, ◌≤◌, ◌<◌}
use mathlib.Core.Path.{◌≡◌, refl, sym, ◌∙◌}
use mathlib.Core.Logic.{◌↔◌, ◌⊎◌, inl, inr, ⊎_elim}
use mathlib.Core.Bool.{Bool, true, false, cond, not, ◌&&◌, ◌||◌, true≢false, not-eq-not, and-eq-true_iff, or-true}
use mathlib.Core.List.{List, [], ◌∷◌}
use borrow.Author.Tests.{leb-true, le-leb, ltb-true, lt-ltb, eqb-true, eq-eqb}
use lib.Dec.{leb, ltb, eqb}
use Rattle.rules.specs.Tests.{every, any}
use Rattle.rules.specs.Rules.{all, Every, Some}

-- a test that says a proposition is false where that fails, true where it holds, and equals each test that says the same
pub fails : {t : Bool} {P : Type 0} → (t ≡ true) ↔ P → (P → ⊥) → false ≡ t
fails e never = sym (not-eq-not.0 (λ h. never (e.0 h)))

pub holds : {t : Bool} {P : Type 0} → (t ≡ true) ↔ P → P → true ≡ t
holds e p = sym (e.1 p)

pub agrees : (s : Bool) {t : Bool} {P : Type 0} → (t ≡ true) ↔ P → (s ≡ true → P) → (s ≡ false → P → ⊥) → s ≡ t
agrees true e where-true where-false = holds e (where-true refl)
agrees false e where-true where-false = fails e (where-false refl)

-- what the answer of a test says of a condition that it equals
pub confirmed : (r : Bool) {t : Bool} → r ≡ t → r ≡ true → t ≡ true
confirmed r e h = sym e ∙ h

pub refuted : (r : Bool) {t : Bool} → r ≡ t → r ≡ false → t ≡ true → ⊥
refuted r e h f = true≢false (sym f ∙ sym e ∙ h)

-- TESTS OF NUMBERS, AND TESTS THAT ARE JOINED

pub eqb_exactly : (a b : ℕ) → (eqb a b ≡ true) ↔ (a ≡ b)
eqb_exactly a b = (eqb-true a b, eq-eqb a b)

pub leb_exactly : (a b : ℕ) → (leb a b ≡ true) ↔ (a ≤ b)
leb_exactly a b = (leb-true a b, le-leb a b)

pub ltb_exactly : (a b : ℕ) → (ltb a b ≡ true) ↔ (a < b)
ltb_exactly a b = (ltb-true a b, lt-ltb a b)

pub either : (a b : Bool) → (a || b) ≡ true → (a ≡ true) ⊎ (b ≡ true)
either true b e = inl refl
either false b e = inr e

module _ {a b : Bool} {P Q : Type 0} (p : (a ≡ true) ↔ P) (q : (b ≡ true) ↔ Q) where
  pub or_exactly : ((a || b) ≡ true) ↔ (P ⊎ Q)
  or_exactly = (
    λ e. ⊎_elim (λ h. inl (p.0 h)) (λ h. inr (q.0 h)) (either a b e),
    ⊎_elim (λ h. rw (p.1 h)) (λ h. rw (q.1 h, or-true a)),
  )

  pub and_exactly : ((a && b) ≡ true) ↔ (P × Q)
  and_exactly = (
    λ e. let h = (and-eq-true_iff a b).0 e in (p.0 h.0, q.0 h.1),
    λ h. (and-eq-true_iff a b).1 (p.1 h.0, q.1 h.1),
  )

-- a test of every value, and of some value, of a list
module _ {A : Type 0} (test : A → Bool) (P : A → Type 0) (says : (x : A) → (test x ≡ true) ↔ P x) where
  pub every_exactly : (xs : List A) → (every test xs ≡ true) ↔ Every P xs
  every_exactly [] = (λ e. tt, λ h. refl)
  every_exactly (x ∷ xs) = and_exactly (says x) (every_exactly xs)

  pub any_exactly : (xs : List A) → (any test xs ≡ true) ↔ Some P xs
  any_exactly [] = (λ e. absurd (true≢false (sym e)), λ h. absurd h)
  any_exactly (x ∷ xs) = or_exactly (says x) (any_exactly xs)

pub some_map : {A : Type 0} (P Q : A → Type 0) → ((x : A) → P x → Q x) → (xs : List A) → Some P xs → Some Q xs
some_map P Q f [] h = h
some_map P Q f (x ∷ xs) h = ⊎_elim (λ p. inl (f x p)) (λ q. inr (some_map P Q f xs q)) h

-- what follows where one thing is so of every value and another of some
pub some_every : {A R : Type 0} (P Q : A → Type 0) → ((x : A) → P x → Q x → R) → (xs : List A) → Every P xs → Some Q xs → R
some_every P Q f [] e s = absurd s
some_every P Q f (x ∷ xs) e s = ⊎_elim (λ q. f x e.0 q) (λ q. some_every P Q f xs e.1 q) s

-- a test that is asked only where another holds
pub where_holds : (a b : Bool) {P Q : Type 0} → (a ≡ true) ↔ P → (b ≡ true) ↔ Q → ((not a || b) ≡ true) ↔ (P → Q)
where_holds true b p q = (λ e h. q.0 e, λ h. q.1 (h (p.0 refl)))
where_holds false b p q = (λ e h. absurd (true≢false (sym (p.1 h))), λ h. refl)

-- RULES THAT THE CODE TRIES IN ORDER: one that fails gives its number, one that holds leaves the number to the later ones

pub stop : (r t : Bool) (later n : ℕ) → r ≡ t → r ≡ false → n ≡ cond t later n
stop r t later n e f = rw (← e, f)

pub pass : (r t : Bool) (k later n : ℕ) → r ≡ t → r ≡ true → k ≡ later → k ≡ cond t later n
pass r t k later n e f h = rw (← e, f, h)

-- SEVERAL TESTS. Facts side by side, the last of them `tt`
infixr 20 ◌&◌
pub ◌&◌ : {A B : Type 0} → A → B → A × B
a & b = (a, b)

abbrev pub Each : List Bool → Type 0
Each [] = Unit
Each (b ∷ bs) = (b ≡ true) × Each bs

pub each : (bs : List Bool) → (all bs ≡ true) ↔ Each bs
unfolding all
each [] = (λ e. tt, λ h. refl)
each (b ∷ bs) = (
  λ e. let p = (and-eq-true_iff b (all bs)).0 e in (p.0, (each bs).0 p.1),
  λ h. (and-eq-true_iff b (all bs)).1 (h.0, (each bs).1 h.1),
)
