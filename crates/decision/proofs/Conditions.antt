-- The tests of rules 26 and 28 say what the propositions of specs/Meaning.antt say, and a file that is placed has all its bytes.
use Prim.Native.Nat.{ℕ}
use mathlib.Core.Path.{◌≡◌}
use mathlib.Core.List.{List}
use native.Mathlib.Omega.{arith}
use borrow.Author.Tests.{leb-true, le-leb}
use lib.ListN.{length, length-take, length-drop}
use Rattle.range.proofs.Ranges.{inside_bounds}
use Rattle.rules.proofs.Tests.{◌&◌, each}
use Rattle.decision.specs.Lists.{file_placed, file_of, hash_of, hash_matches}
use Rattle.decision.specs.Meaning.{Placed, PlacedExactly, HashExactly}
use Rattle.field.proofs.Laws.{same_exactly}
use Rattle.decision.proofs.Readings.{lists_exactly}

pub placed_exactly : PlacedExactly
unfolding file_placed
placed_exactly w window base size = (
  λ e.
      let t = (each _).0 e in
      let i = (inside_bounds _ _).0 t.1.1.0 in
      record { least = leb-true _ _ t.0; most = leb-true _ _ t.1.0; from = i.0; to = i.1 },
  λ h. (each _).1 (le-leb _ _ h.least & le-leb _ _ h.most & (inside_bounds _ _).1 (h.from, h.to) & tt),
)

pub placed_length : (w : List ℕ) (window base size : ℕ) → Placed w window base size → length (file_of w window base size) ≡ size
unfolding file_of
placed_length w window base size p = rw ((placed_exactly w window base size).1 p) (simp (length-take, length-drop) (omega (arith, p.from, p.to)))

pub hash_exactly : HashExactly
unfolding hash_matches hash_of
hash_exactly file r reading reads = rw (lists_exactly file reading reads) (same_exactly _ _)
