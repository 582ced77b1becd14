-- Byte strings that agree where a field or a part is read have the same field and agree in the part.
use Prim.Native.Nat.{ℕ, zero, suc, ◌+◌, ◌≤◌, ◌<◌}
use mathlib.Core.Path.{◌≡◌, refl}
use mathlib.Core.Logic.{◌⊎◌, inl, inr, ⊎_elim}
use mathlib.Core.Bool.{Bool, true, false}
use mathlib.Core.List.{List, [], ◌∷◌}
use native.Mathlib.Omega.{arith}
use borrow.Author.Tests.{ltb-true, ltb-false}
use lib.Dec.{ltb}
use lib.ListN.{length, get_or, take, drop, length-take, length-drop, get_or-eq_default}
use lib.Seq.{get_or-take, get_or-drop}
use Rattle.field.specs.Number.{number}
use Rattle.field.specs.Field.{field_at, number_at}

pub lt_or_le : (i n : ℕ) → (i < n) ⊎ (n ≤ i)
lt_or_le i n = by (ltb i n) refl
  where
    by : (b : Bool) → ltb i n ≡ b → (i < n) ⊎ (n ≤ i)
    by true e = inl (ltb-true i n e)
    by false e = inr (ltb-false i n e)

number_same : (width : ℕ) (s t : List ℕ) → length s ≡ length t → ((i : ℕ) → i < width → get_or s i 0 ≡ get_or t i 0) → number width s ≡ number width t
unfolding number
number_same zero s t l h = refl
number_same (suc width) [] [] l h = refl
number_same (suc width) [] (b ∷ t) l h = absurd (omega arith)
number_same (suc width) (a ∷ s) [] l h = absurd (omega arith)
number_same (suc width) (a ∷ s) (b ∷ t) l h =
    let low : a ≡ b = h 0 (omega arith) in
    let high : number width s ≡ number width t = number_same width s t (omega arith) (λ i p. h (suc i) (omega arith)) in
    rw (low, high)

pub drop_lengths : (n : ℕ) (s t : List ℕ) → length s ≡ length t → length (drop n s) ≡ length (drop n t)
drop_lengths n s t l = omega (arith, length-drop n s, length-drop n t)

pub drop_same : (n : ℕ) (s t : List ℕ) (i : ℕ) → get_or s (n + i) 0 ≡ get_or t (n + i) 0 → get_or (drop n s) i 0 ≡ get_or (drop n t) i 0
drop_same n s t i h = rw (get_or-drop n s i 0, get_or-drop n t i 0) h

pub take_same : (n : ℕ) (s t : List ℕ) (i : ℕ) → (i < n → get_or s i 0 ≡ get_or t i 0) → get_or (take n s) i 0 ≡ get_or (take n t) i 0
take_same n s t i h = ⊎_elim (λ p. rw (get_or-take n s i 0 p, get_or-take n t i 0 p) (h p)) (λ p. rw (past s p, past t p)) (lt_or_le i n)
  where
    past : (l : List ℕ) → n ≤ i → get_or (take n l) i 0 ≡ 0
    past l p = get_or-eq_default (take n l) 0 (omega (arith, length-take n l))

pub field_same : (s t : List ℕ) (at width : ℕ) → length s ≡ length t → ((i : ℕ) → at ≤ i → i < at + width → get_or s i 0 ≡ get_or t i 0)
    → number_at s at width ≡ number_at t at width
unfolding field_at
field_same s t at width l h =
    rw (
      l,
      number_same width (drop at s) (drop at t) (drop_lengths at s t l) (λ i p. drop_same at s t i (h (at + i) (omega arith) (omega arith))),
    )
