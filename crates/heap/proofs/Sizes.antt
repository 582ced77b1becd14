-- What the tests of sizes say.
use Prim.Native.Nat.{ℕ, ◌+◌, ◌≤◌}
use mathlib.Core.Path.{◌≡◌}
use mathlib.Core.Logic.{◌↔◌}
use mathlib.Core.Bool.{true, and-eq-true_iff}
use mathlib.Core.List.{List}
use borrow.Author.Tests.{leb-true, le-leb}
use Rattle.heap.specs.Heap.{size_fits, parts_fit}
use Rattle.heap.specs.Meaning.{PartsFit}

pub fits_exactly : (at size end : ℕ) → (size_fits at size end ≡ true) ↔ ((8 ≤ size) × (at + size ≤ end))
unfolding size_fits
fits_exactly at size end = (
  λ e. let p = (and-eq-true_iff _ _).0 e in (leb-true _ _ p.0, leb-true _ _ p.1),
  λ p. (and-eq-true_iff _ _).1 (le-leb _ _ p.0, le-leb _ _ p.1),
)

pub parts_exactly : (heap : List ℕ) → (parts_fit heap ≡ true) ↔ PartsFit heap
unfolding parts_fit
parts_exactly heap = (
  λ e.
      let p = (and-eq-true_iff _ _).0 e in
      let q = (and-eq-true_iff _ _).0 p.1 in
      let r = (and-eq-true_iff _ _).0 q.1 in
      record { bios_data = leb-true _ _ p.0; os_mle_data = leb-true _ _ q.0; os_sinit_data = leb-true _ _ r.0; sum = leb-true _ _ r.1 },
  λ p. simp (le-leb _ _ p.bios_data, le-leb _ _ p.os_mle_data, le-leb _ _ p.os_sinit_data, le-leb _ _ p.sum),
)
