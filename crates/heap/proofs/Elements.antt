-- The elements one after the other: how far the test of the elements looks, and what one element says of it.
use Prim.Native.Nat.{ℕ, zero, suc, ◌+◌, ◌-◌, ◌≤◌, ◌<◌}
use mathlib.Core.Path.{◌≡◌, refl, sym, ◌∙◌}
use mathlib.Core.Logic.{◌↔◌}
use mathlib.Core.Bool.{Bool, true, false, false≢true, cond, ◌&&◌, not-eq-not, and-eq-true_iff}
use mathlib.Core.List.{List}
use native.Mathlib.Nat.{sub-zero}
use native.Mathlib.Omega.{arith}
use borrow.Author.Count.{below_more}
use borrow.Author.Tests.{eqb-true, eqb-false, eq-eqb, ne_eqb}
use lib.Dec.{eqb}
use lib.ListN.{length}
use Rattle.heap.specs.Heap.{type_at, size_at, element_at, ends_within, elements_end}
use Rattle.heap.specs.Meaning.{Element, Skipped, place_of, ElementsEnd}
use Rattle.heap.specs.Bodies.{Reached}
use Rattle.heap.proofs.Sizes.{fits_exactly}

pub and_same : (a x y : Bool) → (a ≡ true → x ≡ y) → (a && x) ≡ (a && y)
and_same true x y f = f refl
and_same false x y f = refl

pub cond_same : (a x y z : Bool) → (a ≡ false → y ≡ z) → cond a x y ≡ cond a x z
cond_same true x y z f = refl
cond_same false x y z f = f refl

module _ (s : List ℕ) where
  pub no_room : (n at : ℕ) → length s < at + 8 → ends_within n s at ≡ false
  unfolding ends_within
  no_room zero at h = refl
  no_room (suc n) at h =
      not-eq-not.0 (λ e. omega (arith, (fits_exactly _ _ _).0 ((and-eq-true_iff (element_at s at) _).0 e).0))

  -- any number of elements that is large enough will do
  enough : (m n at : ℕ) → length s ≤ at + m → length s ≤ at + n → ends_within m s at ≡ ends_within n s at
  unfolding ends_within
  enough zero n at p q = sym (no_room n at (omega arith))
  enough (suc m) zero at p q = no_room (suc m) at (omega arith)
  enough (suc m) (suc n) at p q =
      and_same (element_at s at) _ _ (λ e. cond_same (eqb (type_at s at) 0) (eqb (size_at s at) 8) _ _ (λ k.
      let b = (fits_exactly at (size_at s at) (length s)).0 e in
      enough m n (at + size_at s at) (omega arith) (omega arith)))

  abbrev pub ends_from : ℕ → Bool
  ends_from at = ends_within (length s - at) s at

  pub next : (at : ℕ) → at < length s
      → ends_from at ≡ (element_at s at && cond (eqb (type_at s at) 0) (eqb (size_at s at) 8) (ends_from (at + size_at s at)))
  unfolding ends_within
  next at h =
      let one : length s - at ≡ suc (length s - at - 1) = omega arith in
      rw one (and_same (element_at s at) _ _ (λ e. cond_same (eqb (type_at s at) 0) (eqb (size_at s at) 8) _ _ (λ k.
      let b = (fits_exactly at (size_at s at) (length s)).0 e in
      enough (length s - at - 1) (length s - (at + size_at s at)) (at + size_at s at) (omega arith) (omega arith))))

  is_element : {at : ℕ} → element_at s at ≡ true → Element s at
  is_element e = let b = (fits_exactly _ _ _).0 e in record { least = b.0; inside = b.1 }

  skips : (at : ℕ) → Skipped s at → ends_from at ≡ ends_from (at + size_at s at)
  skips at k = rw (next at (omega arith), (fits_exactly _ _ _).1 (k.element.least, k.element.inside), ne_eqb (type_at s at) 0 k.other)

  stops : (at : ℕ) → Element s at → type_at s at ≡ 0 → size_at s at ≡ 8 → ends_from at ≡ true
  stops at k z n = rw (next at (omega arith), (fits_exactly _ _ _).1 (k.least, k.inside), eq-eqb (type_at s at) 0 z, eq-eqb (size_at s at) 8 n)

  -- from any element up to the last
  ends : (e : ElementsEnd s) (d k : ℕ) → d + k ≡ e.last → ends_from (place_of s k) ≡ true
  unfolding place_of
  ends e zero k q = let l : k ≡ e.last = omega arith in rw l (stops (place_of s e.last) e.element e.kind e.size)
  ends e (suc d) k q = skips (place_of s k) (e.earlier k (omega arith)) ∙ ends e d (suc k) (omega arith)

  pub one_more : (k : ℕ) → Reached s k → element_at s (place_of s k) ≡ true → eqb (type_at s (place_of s k)) 0 ≡ false → Reached s (suc k)
  one_more k r e z j l = below_more _ k r (record { element = is_element e; other = eqb-false _ _ z }) j (omega arith)

  -- the element number k, with what follows from it where it is skipped
  step : (n k : ℕ) → Reached s k → element_at s (place_of s k) ≡ true
      → (Reached s (suc k) → ends_within n s (place_of s k + size_at s (place_of s k)) ≡ true → ElementsEnd s) → (t : Bool)
      → eqb (type_at s (place_of s k)) 0 ≡ t
      → cond t (eqb (size_at s (place_of s k)) 8) (ends_within n s (place_of s k + size_at s (place_of s k))) ≡ true → ElementsEnd s
  step n k r e rest true z q = record { last = k; earlier = r; element = is_element e; kind = eqb-true _ _ z; size = eqb-true _ _ q }
  step n k r e rest false z q = rest (one_more k r e z) q

  found : (n k : ℕ) → Reached s k → ends_within n s (place_of s k) ≡ true → ElementsEnd s
  unfolding ends_within place_of
  found zero k r e = absurd (false≢true e)
  found (suc n) k r e =
      let p = (and-eq-true_iff (element_at s (place_of s k)) _).0 e in
      step n k r p.0 (found n (suc k)) (eqb (type_at s (place_of s k)) 0) refl p.1

  pub elements_exactly : (elements_end s ≡ true) ↔ ElementsEnd s
  unfolding place_of
  elements_exactly = (
    found (length s) 0 (λ j l. absurd (omega arith)),
    λ e. rw sub-zero at (ends e e.last 0 (omega arith)),
  )
