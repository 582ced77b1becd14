-- The numbers of the reserved ranges: one more at the front of the zeros that are left, until all that the count says are there.
use Prim.Native.Nat.{ℕ, zero, suc, ◌+◌, ◌-◌, ◌*◌, ◌<◌}
use mathlib.Core.Path.{◌≡◌, refl, sym}
use mathlib.Core.List.{List, [], ◌∷◌, ◌++◌}
use native.Mathlib.Omega.{arith}
use lib.ListN.{length, length-append, replicate, set}
use lib.Seq.{append_snoc, set_at}
use Rattle.field.specs.Field.{number_at}
use Rattle.launch.specs.Rules.{most_reserved}
use Rattle.capture.specs.Capture.{range_count, numbers_at, ranges_at, reserved_of}

-- n places, of which the first k have the numbers from an offset on, and the others zeros
abbrev pub filled : List ℕ → ℕ → ℕ → ℕ → List ℕ
filled s at n k = numbers_at s at k ++ replicate (n - k) 0

pub none_filled : (s : List ℕ) (at n : ℕ) → replicate n 0 ≡ filled s at n 0
unfolding numbers_at
none_filled s at n =
    let e : n - 0 ≡ n = omega arith in
    rw e

length_numbers : (s : List ℕ) (at k : ℕ) → length (numbers_at s at k) ≡ k
unfolding numbers_at
length_numbers s at zero = refl
length_numbers s at (suc k) = rw (length-append (numbers_at s at k) (number_at s (at + 8 * k) 8 ∷ []), length_numbers s at k) (omega arith)

pub one_filled : (s : List ℕ) (at n k x : ℕ) → k < n → x ≡ number_at s (at + 8 * k) 8 → set (filled s at n k) k x ≡ filled s at n (k + 1)
unfolding numbers_at
one_filled s at n k x h e =
    let more : n - k ≡ suc (n - (k + 1)) = omega arith in
    let next : k + 1 ≡ suc k = omega arith in
    rw (more, set_at (numbers_at s at k) 0 (replicate (n - (k + 1)) 0) x k (length_numbers s at k), next, e)
    (sym (append_snoc (numbers_at s at k) (number_at s (at + 8 * k) 8) (replicate (n - suc k) 0)))

pub all_filled : (s : List ℕ) (n : ℕ) (numbers : List ℕ) → n ≡ range_count s → numbers ≡ filled s ranges_at (2 * most_reserved) (2 * n)
    → record { count = n; numbers = numbers } ≡ reserved_of s
unfolding reserved_of
all_filled s n numbers e f = rw (f, e)
