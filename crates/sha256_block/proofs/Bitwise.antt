-- Two bitwise functions of three words are the same where they are the same on single digits. So `Ch` and `Maj` may be worked
-- out with fewer operations than FIPS 180-4 writes.
use Rattle.std.proofs.Common.{◌≡◌, ℕ, ◌+◌, ◌-◌, ◌%◌, ◌^◌, ◌<◌, refl, sym, ◌∙◌, Bool, true, false, min, bit_and, bit_xor, w32, arith}
use Rattle.std.specs.Int.{bit_at}
use Rattle.std.proofs.Math.Nat.{min-zero}
use Rattle.std.proofs.lemmas.Nat.Bits.{bit_at-lt, bit_at_above, bit_at_and, bit_at_not, bit_at_xor, same_from_bits}
use borrow.Author.Tests.{ltb-true, ltb-false}
use lib.Dec.{ltb}
use Rattle.sha256_block.specs.Words.{NOT, Ch, Maj}

-- v is made of words x, y and z digit by digit: each of its digits is the function d of theirs
abbrev Bitwise : ℕ → (ℕ → ℕ → ℕ → ℕ) → ℕ → ℕ → ℕ → Type 0
Bitwise v d x y z = (i : ℕ) → bit_at v i ≡ d (bit_at x i) (bit_at y i) (bit_at z i)

agree : (x y z v w : ℕ) (d e : ℕ → ℕ → ℕ → ℕ) → Bitwise v d x y z → Bitwise w e x y z
    → ((p q r : ℕ) → p < 2 → q < 2 → r < 2 → d p q r ≡ e p q r) → v ≡ w
agree x y z v w d e f g same =
    same_from_bits v w (λ i. f i ∙ same _ _ _ (bit_at-lt x i) (bit_at-lt y i) (bit_at-lt z i) ∙ sym (g i))

-- a digit of the complement of a word, where another word has one
complement : (x z i : ℕ) → x < 2 ^ 32 → z < 2 ^ 32 → min (bit_at (NOT x) i) (bit_at z i) ≡ min (1 - bit_at x i) (bit_at z i)
complement x z i hx hz = by (ltb i 32) refl
  where
    by : (b : Bool) → ltb i 32 ≡ b → min (bit_at (NOT x) i) (bit_at z i) ≡ min (1 - bit_at x i) (bit_at z i)
    by true low = rw (bit_at_not w32 x i hx (ltb-true i 32 low))
    by false high = simp (bit_at_above z 32 i hz (ltb-false i 32 high), min-zero)

pub choice : (x y z : ℕ) → x < 2 ^ 32 → y < 2 ^ 32 → z < 2 ^ 32 → bit_xor z (bit_and x (bit_xor y z)) ≡ Ch x y z
choice x y z hx hy hz =
    agree x y z _ _ (λ p q r. (r + min p ((q + r) % 2)) % 2) (λ p q r. (min p q + min (1 - p) r) % 2)
    (λ i. simp (bit_at_xor, bit_at_and)) (λ i. simp (bit_at_xor, bit_at_and, complement x z i hx hz)) (λ p q r hp hq hr. omega arith)

pub majority : (x y z : ℕ) → bit_xor y (bit_and (bit_xor x y) (bit_xor y z)) ≡ Maj x y z
majority x y z =
    agree x y z _ _ (λ p q r. (q + min ((p + q) % 2) ((q + r) % 2)) % 2) (λ p q r. ((min p q + min p r) % 2 + min q r) % 2)
    (λ i. simp (bit_at_xor, bit_at_and)) (λ i. simp (bit_at_xor, bit_at_and)) (λ p q r hp hq hr. omega arith)
