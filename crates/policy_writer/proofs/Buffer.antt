-- Bytes put into a buffer, one after the other and part behind part. The invariant of a loop: what is left to put gives the buffer that all of it gives.
use Prim.Native.Nat.{ℕ, suc, ◌+◌, ◌-◌, ◌/◌, ◌%◌, ◌≤◌, ◌<◌}
use native.Mathlib.Nat.{add-zero}
use native.Mathlib.Omega.{arith}
use mathlib.Core.Path.{◌≡◌, refl, ap, sym, subst, ◌∙◌}
use mathlib.Core.List.{List, [], ◌∷◌, ◌++◌}
use lib.ListN.{length, drop, get_or, set, length-set, length-drop}
use lib.Seq.{sets, length-sets, sets-eq, set_comm, set_out, drop-cons}
use Rattle.field.specs.Number.{bytes}
use Rattle.field.proofs.Laws.{length_bytes}
use Rattle.policy_writer.specs.Inner.{put, Placed}

-- nothing is put past the buffer's end
past_end : (s out : List ℕ) (at : ℕ) → length out ≤ at → sets out at s ≡ out
past_end [] out at h = refl
past_end (b ∷ s) out at h = ap (λ (d : List ℕ). sets d (suc at) s) (set_out out at b h) ∙ past_end s out (suc at) (omega arith)

-- so many bytes of `all` have been put from `at` on, and `rest` is left
pub record Left (before out : List ℕ) (at k : ℕ) (rest all : List ℕ) : Type 0 where
  pub same : length out ≡ length before
  pub left : put out (at + k) rest ≡ put before at all

pub left_start : (out : List ℕ) (at : ℕ) (all : List ℕ) → Left out out at 0 all all
left_start out at all = record { same = refl; left = ap (λ (n : ℕ). put out n all) (add-zero at) }

module _ (before out : List ℕ) (at k : ℕ) (all : List ℕ) where
  left_one : (later : List ℕ) (b : ℕ) (rest : List ℕ) → later ≡ set out (at + k) b → Left before out at k (b ∷ rest) all → Left before later at (k + 1) rest all
  unfolding put
  left_one later b rest e h =
      let n : at + (k + 1) ≡ suc (at + k) = omega arith in
      record { same = ap length e ∙ length-set out (at + k) b ∙ h.same; left = rw (n, e) h.left }

  -- what is left is past the buffer's end, or nothing
  left_end : (rest : List ℕ) → (0 < length rest → length before ≤ at + k) → Left before out at k rest all → out ≡ put before at all
  unfolding put
  left_end [] h l = l.left
  left_end (b ∷ rest) h l = sym (past_end (b ∷ rest) out (at + k) (omega (arith, h (omega arith), l.same))) ∙ l.left

-- bytes
module _ (before out : List ℕ) (at : ℕ) (s : List ℕ) where
  pub bytes_on : (later : List ℕ) (k : ℕ) → k < length s → later ≡ set out (at + k) (get_or s k 0) → Left before out at k (drop k s) s → Left before later at (k + 1) (drop (k + 1) s) s
  bytes_on later k h e l =
      let n : k + 1 ≡ suc k = omega arith in
      subst (λ (m : ℕ). Left before later at (k + 1) (drop m s) s) (sym n) (left_one before out at k s later (get_or s k 0) (drop (suc k) s) e (rw (drop-cons s k 0 h) at l))

  pub bytes_end : (n k : ℕ) → Placed (length before) at (length s) n → n ≤ k → k ≤ n → Left before out at k (drop k s) s → out ≡ put before at s
  bytes_end n k p h l q =
      let i : k ≡ n = omega arith in
      left_end before out at k s (drop k s) (λ z. omega (arith, p.whole (omega (arith, length-drop k s)), i)) q

-- a number
pub number_start : (out : List ℕ) (at width x : ℕ) → Left out out at 0 (bytes (width - 0) x) (bytes width x)
number_start out at width x = let i : width - 0 ≡ width = omega arith in rw i (left_start out at (bytes width x))

module _ (before out : List ℕ) (at width x : ℕ) where
  pub number_on : (later : List ℕ) (k left : ℕ) → k < width → later ≡ set out (at + k) (left % 256) → Left before out at k (bytes (width - k) left) (bytes width x)
      → Left before later at (k + 1) (bytes (width - (k + 1)) (left / 256)) (bytes width x)
  unfolding bytes
  number_on later k left h e l =
      let i : width - k ≡ suc (width - (k + 1)) = omega arith in
      left_one before out at k (bytes width x) later (left % 256) (bytes (width - (k + 1)) (left / 256)) e (rw i at l)

  pub number_end : (n k left : ℕ) → Placed (length before) at width n → n ≤ k → k ≤ n → Left before out at k (bytes (width - k) left) (bytes width x)
      → out ≡ put before at (bytes width x)
  number_end n k left p h l q =
      let i : k ≡ n = omega arith in
      left_end before out at k (bytes width x) (bytes (width - k) left) (λ z. omega (arith, p.whole (omega (arith, length_bytes (width - k) left)), i)) q

-- PARTS BEHIND PARTS

-- what is put before what is put already
set_sets : (out : List ℕ) (i a j : ℕ) (b : List ℕ) → i < j → set (sets out j b) i a ≡ sets (set out i a) j b
set_sets out i a j [] h = refl
set_sets out i a j (x ∷ b) h =
    set_sets (set out j x) i a (suc j) b (omega arith) ∙ ap (λ (d : List ℕ). sets d (suc j) b) (set_comm out j i x a (λ e. omega arith))

pub put_before : (out : List ℕ) (at : ℕ) (a b : List ℕ) (j : ℕ) → j ≡ at + length a → put (put out j b) at a ≡ put out at (a ++ b)
unfolding put
put_before out at [] b j e = ap (λ (n : ℕ). sets out n b) (e ∙ omega arith)
put_before out at (x ∷ a) b j e =
    ap (λ (d : List ℕ). sets d (suc at) a) (set_sets out at x j b (omega arith)) ∙ put_before (set out at x) (suc at) a b j (omega arith)

pub put_behind : (out : List ℕ) (at : ℕ) (a b : List ℕ) (j : ℕ) → j ≡ at + length a → put (put out at a) j b ≡ put out at (a ++ b)
unfolding put
put_behind out at [] b j e = ap (λ (n : ℕ). sets out n b) (e ∙ omega arith)
put_behind out at (x ∷ a) b j e = put_behind (set out at x) (suc at) a b j (omega arith)

-- a part behind another, each put by itself
pub put_two : (out : List ℕ) (to : ℕ) (x y : List ℕ) (j : ℕ) (a b : List ℕ) → a ≡ put out to x → b ≡ put a j y → j ≡ to + length x → b ≡ put out to (x ++ y)
put_two out to x y j a b ea eb e = eb ∙ ap (λ (d : List ℕ). put d j y) ea ∙ put_behind out to x y j e

pub put_same : (out : List ℕ) (to : ℕ) (x later : List ℕ) → later ≡ put out to x → length later ≡ length out
unfolding put
put_same out to x later e = ap length e ∙ length-sets out to x

-- what fills the front of a buffer
pub put_front : (out s : List ℕ) → length s ≤ length out → put out 0 s ≡ s ++ drop (length s) out
unfolding put
put_front out s h = let n : 0 + length s ≡ length s = omega arith in sets-eq s out 0 (omega arith) ∙ ap (λ (m : ℕ). s ++ drop m out) n
