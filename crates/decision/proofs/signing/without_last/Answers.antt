-- `without_last` meets its contract: no bytes where there are fewer than n, as a difference that would be below 0 is 0.
use Prim.Native.Nat.{ℕ, ◌-◌, ◌<◌}
use mathlib.Core.Path.{◌≡◌, refl, sym}
use mathlib.Core.List.{List, []}
use native.Mathlib.Omega.{arith}
use lib.ListN.{length, take}
use lib.Seq.{length-take-le}
use Rattle.decision.proofs.signing.without_last.Goals as goal

-- fewer bytes than are left out
none_left : (b : List ℕ) (n : ℕ) → length b < n → ◌≡◌ {A = List ℕ} [] (take (length b - n) b)
none_left b n h = let e : length b - n ≡ 0 = omega arith in rw e refl

some_left : (b : List ℕ) (n : ℕ) → length b - n ≡ length (take (length b - n) b)
some_left b n = sym (length-take-le (length b - n) b (omega arith))

pub returns-then-b-n : goal.returns-then-b-n
returns-then-b-n c = let a = c.args in none_left a.b.now a.n c.if-b-n.true

pub slice_bounds-result-length : goal.slice_bounds-result-length
slice_bounds-result-length c = let a = c.args in some_left a.b.now a.n
