-- Bytes of a string between two offsets, and what is left of it from an offset on.
use Prim.Native.Nat.{ℕ, ◌+◌, ◌≤◌, ◌<◌}
use native.Mathlib.Omega.{arith}
use mathlib.Core.Path.{◌≡◌, ◌∙◌}
use mathlib.Core.Logic.{⊎_elim}
use mathlib.Core.List.{List}
use lib.ListN.{length, take, drop}
use lib.Seq.{take-add, drop_at, length-take-le}
use denote.Bor.{Bor}
use Rattle.std.specs.Prelude.{Option, Some, None}
use Rattle.std.specs.Slice.{IsGetRangeResult}
use Rattle.field.proofs.Laws.{from_offset}

pub drop_take : (n k : ℕ) (s : List ℕ) → n ≤ length s → drop n (take (n + k) s) ≡ take k (drop n s)
drop_take n k s h = rw (take-add n k s) (drop_at (take n s) (take k (drop n s)) n (length-take-le n s h))

-- what `get(at..)` answers
module _ (s : List ℕ) (at : ℕ) where
  pub past_end : (o : Option (Bor (List ℕ))) → IsGetRangeResult s at (length s) o → o ≡ None → length s < at
  past_end None h e = ⊎_elim (λ l. l) (λ l. omega arith) h.0
  past_end (Some r) h e = cc

  pub rest_is : (o : Option (Bor (List ℕ))) → IsGetRangeResult s at (length s) o → (r : Bor (List ℕ)) → o ≡ Some r → (r.now ≡ drop at s) × (length r.now + at ≡ length s)
  rest_is None h r e = cc
  rest_is (Some y) h r e = let i : y ≡ r = cc in (rw i at (h.0.2 ∙ from_offset s at), rw i at h.0.3)
