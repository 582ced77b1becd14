-- `elements_end` meets its contract. The loop's invariant is that the elements from `at` on decide as all of them do.
use Prim.Native.Nat.{ℕ, ◌+◌, ◌-◌, ◌≤◌}
use mathlib.Core.Path.{◌≡◌, sym, ◌∙◌}
use mathlib.Core.Bool.{Bool, true, false}
use mathlib.Core.List.{List}
use native.Mathlib.Nat.{sub-zero}
use native.Mathlib.Omega.{arith}
use borrow.Author.Tests.{eq-eqb, ne_eqb}
use borrow.Author.Rules.{rules}
use lib.Dec.{eqb}
use lib.ListN.{length}
use Rattle.heap.specs.Heap.{size_fits, type_at, size_at, elements_end}
use Rattle.heap.proofs.Sizes.{fits_exactly}
use Rattle.heap.proofs.Elements.{ends_from, no_room, next}
use Rattle.heap.proofs.elements_end.Goals as goal

-- the element at `at`, in the code's terms: its size, and the test of it
module _ (s : List ℕ) (at size : ℕ) (w e : Bool) (room : 8 ≤ length s - at) (sized : size ≡ size_at s at)
    (tested : w ≡ size_fits at size (length s)) (i : ends_from s at ≡ e) where
  refuses : w ≡ false → false ≡ e
  refuses n = sym (rw (← sized, ← tested, n) at (next s at (omega arith))) ∙ i

  module _ (kind : ℕ) (typed : kind ≡ type_at s at) (n : w ≡ true) where
    stops : kind ≡ 0 → eqb size 8 ≡ e
    stops z = sym (rw (← sized, ← tested, n, ← typed, eq-eqb kind 0 z) at (next s at (omega arith))) ∙ i

    passes : (kind ≡ 0 → ⊥) → ends_from s (at + size) ≡ e
    passes z = sym (rw (← sized, ← tested, n, ← typed, ne_eqb kind 0 z) at (next s at (omega arith))) ∙ i

start : (s : List ℕ) → ends_from s 0 ≡ elements_end s
start s = rw sub-zero

pub loop-at-init : goal.loop-at-init
loop-at-init c = (search rules, search start)

pub returns-then-not-size_fits : goal.returns-then-not-size_fits
returns-then-not-size_fits c =
    refuses _ _ _ _ _ (omega arith) c.number_or_zero-size.ensures.0 c.size_fits.ensures c.loop-at.invariant.1 c.if-not-size_fits.true

pub returns-then-number_or_zero-eq-END_TYPE : goal.returns-then-number_or_zero-eq-END_TYPE
returns-then-number_or_zero-eq-END_TYPE c =
    stops _ _ _ _ _ (omega arith) c.number_or_zero-size.ensures.0 c.size_fits.ensures c.loop-at.invariant.1
    _ c.number_or_zero.ensures.0 c.if-not-size_fits.false c.if-number_or_zero-eq-END_TYPE.true

pub loop-at-smaller : goal.loop-at-smaller
loop-at-smaller c =
    let tested = c.size_fits.ensures in
    omega (arith, (fits_exactly _ _ _).0 (sym tested ∙ c.if-not-size_fits.false))

pub loop-at-preserved : goal.loop-at-preserved
loop-at-preserved c =
    let tested = c.size_fits.ensures in
    let whole = c.if-not-size_fits.false in
    let i = c.loop-at.invariant.1 in
    let sized = c.number_or_zero-size.ensures.0 in (
      omega (arith, (fits_exactly _ _ _).0 (sym tested ∙ whole)),
      passes _ _ _ _ _ (omega arith) sized tested i _ c.number_or_zero.ensures.0 whole c.if-number_or_zero-eq-END_TYPE.false,
    )

pub returns : goal.returns
returns c = sym (no_room _ _ _ (omega arith)) ∙ c.loop-at.invariant.1
