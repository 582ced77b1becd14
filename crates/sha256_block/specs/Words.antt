-- Operations and functions on words of 32 bits: FIPS 180-4, sections 2.2.2, 3.2 and 4.1.2. The library's bitAnd, bitOr and
-- bitXor are the bitwise operations of 3.2, 1.
use Rattle.std.specs.Prelude.{ℕ, ◌+◌, ◌-◌, ◌*◌, ◌/◌, ◌%◌, ◌^◌, bit_and, bit_or, bit_xor}

-- 3.2, 2: the sum modulo 2^32
infixl 70 ◌⊞◌
unfoldable pub ◌⊞◌ : ℕ → ℕ → ℕ
x ⊞ y = (x + y) % 2 ^ 32

-- 2.2.2: the complement and the shift to the left, which drops the bits that leave the word
abbrev pub NOT : ℕ → ℕ
NOT x = 2 ^ 32 - 1 - x

abbrev pub SHL : ℕ → ℕ → ℕ
SHL n x = x * 2 ^ n % 2 ^ 32

-- 3.2, 3: the shift to the right
abbrev pub SHR : ℕ → ℕ → ℕ
SHR n x = x / 2 ^ n

-- 3.2, 4: the rotation to the right
abbrev pub ROTR : ℕ → ℕ → ℕ
ROTR n x = bit_or (SHR n x) (SHL (32 - n) x)

-- 4.1.2, (4.2) to (4.7)
abbrev pub Ch : ℕ → ℕ → ℕ → ℕ
Ch x y z = bit_xor (bit_and x y) (bit_and (NOT x) z)

abbrev pub Maj : ℕ → ℕ → ℕ → ℕ
Maj x y z = bit_xor (bit_xor (bit_and x y) (bit_and x z)) (bit_and y z)

abbrev pub Σ₀ : ℕ → ℕ
Σ₀ x = bit_xor (bit_xor (ROTR 2 x) (ROTR 13 x)) (ROTR 22 x)

abbrev pub Σ₁ : ℕ → ℕ
Σ₁ x = bit_xor (bit_xor (ROTR 6 x) (ROTR 11 x)) (ROTR 25 x)

abbrev pub σ₀ : ℕ → ℕ
σ₀ x = bit_xor (bit_xor (ROTR 7 x) (ROTR 18 x)) (SHR 3 x)

abbrev pub σ₁ : ℕ → ℕ
σ₁ x = bit_xor (bit_xor (ROTR 17 x) (ROTR 19 x)) (SHR 10 x)
