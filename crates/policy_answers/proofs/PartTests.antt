-- The bytes of a part, by the reads that lead to them: what is left from its start on, and then the first bytes of that.
use Prim.Native.Nat.{ℕ, ◌+◌, ◌-◌, ◌≤◌, ◌<◌}
use native.Mathlib.Omega.{arith}
use mathlib.Core.Path.{◌≡◌, ◌∙◌}
use mathlib.Core.Logic.{⊎_elim}
use mathlib.Core.List.{List, []}
use lib.ListN.{length, take, drop}
use borrow.Author.Tests.{le-leb, lt-leb}
use denote.Bor.{Bor}
use Rattle.std.specs.Prelude.{Option, Some, None}
use Rattle.std.specs.Option.{unwrap_or}
use Rattle.std.specs.Slice.{IsGetRangeResult}
use Rattle.policy_answers.specs.Parts.{part_at}

module _ (s : List ℕ) (start len : ℕ) where
  pub outside : length s < start + len → [] ≡ part_at s start len
  unfolding part_at
  outside h = rw (lt-leb (start + len) (length s) h)

  inside : start + len ≤ length s → take len (drop start s) ≡ part_at s start len
  unfolding part_at
  inside h = rw (le-leb (start + len) (length s) h)

  -- r is left, of which `get(..len)` answers x
  pub part_of_rest : (r : List ℕ) → (r ≡ drop start s) × (length r + start ≡ length s)
      → (x : Option (Bor (List ℕ))) → IsGetRangeResult r 0 len x → (none : Bor (List ℕ)) → none.now ≡ [] → (unwrap_or x none).now ≡ part_at s start len
  part_of_rest r e None h none q = q ∙ outside (⊎_elim (λ b. omega arith) (λ b. omega (arith, e.1)) h.0)
  part_of_rest r e (Some x) h none q =
      let i : len - 0 ≡ len = omega arith in
      h.0.2 ∙ rw (i, e.0) (inside (omega (arith, h.0.1, e.1)))
