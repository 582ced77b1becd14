-- The values of a list that a test leaves: one test after another, tests that agree, and what some value that is left says.
use mathlib.Core.Path.{◌≡◌, refl, sym}
use mathlib.Core.Logic.{◌↔◌, ◌⊎◌, inl, inr, ⊎_elim}
use mathlib.Core.Bool.{Bool, true, false, cond, ◌&&◌, ◌||◌, true≢false}
use mathlib.Core.List.{List, [], ◌∷◌}
use Rattle.rules.specs.Tests.{any, filter}
use Rattle.rules.specs.Rules.{Some}

module _ {A : Type 0} (f : A → Bool) where
  -- a test holds of some value where it leaves one
  pub any_left : (xs : List A) → any f xs ≡ any (λ (x : A). true) (filter f xs)
  any_left [] = refl
  any_left (x ∷ xs) = by (f x) (any_left xs)
    where
      by : (t : Bool) → any f xs ≡ any (λ (x : A). true) (filter f xs)
          → (t || any f xs) ≡ any (λ (x : A). true) (cond t (x ∷ filter f xs) (filter f xs))
      by true e = refl
      by false e = e

  module _ (g : A → Bool) where
    pub filter_same : ((x : A) → f x ≡ g x) → (xs : List A) → filter f xs ≡ filter g xs
    filter_same e [] = refl
    filter_same e (x ∷ xs) = rw (e x, filter_same e xs)

    -- one test after another leaves what both leave
    pub filter_twice : (both : A → Bool) → ((x : A) → (g x && f x) ≡ both x) → (xs : List A) → filter f (filter g xs) ≡ filter both xs
    filter_twice both e [] = refl
    filter_twice both e (x ∷ xs) = rw (← e x) (by (g x) (filter_twice both e xs))
      where
        by : (t : Bool) → filter f (filter g xs) ≡ filter both xs → filter f (cond t (x ∷ filter g xs) (filter g xs)) ≡ cond (t && f x) (x ∷ filter both xs) (filter both xs)
        by true h = rw h
        by false h = h

module _ {A : Type 0} (P : A → Type 0) (test : A → Bool) where
  abbrev Passing : A → Type 0
  Passing x = (test x ≡ true) × P x

  pub some_filter : (xs : List A) → Some P (filter test xs) ↔ Some Passing xs
  some_filter [] = (λ h. h, λ h. h)
  some_filter (x ∷ xs) = by (test x) (some_filter xs)
    where
      by : (t : Bool) → Some P (filter test xs) ↔ Some Passing xs → Some P (cond t (x ∷ filter test xs) (filter test xs)) ↔ (((t ≡ true) × P x) ⊎ Some Passing xs)
      by true rest = (⊎_elim (λ p. inl (refl, p)) (λ q. inr (rest.0 q)), ⊎_elim (λ h. inl h.1) (λ q. inr (rest.1 q)))
      by false rest = (λ h. inr (rest.0 h), ⊎_elim (λ h. absurd (true≢false (sym h.0))) (λ q. rest.1 q))
