-- SHA-256 of a message of bytes: FIPS 180-4, sections 5.1.1, 5.3.3 and 6.2.
use Rattle.std.specs.Prelude.{◌≡◌, ℕ, zero, suc, ◌+◌, ◌-◌, ◌*◌, ◌/◌, ◌%◌, ◌^◌, ◌<◌, ◌≤◌, List, [], ◌∷◌, ◌++◌, length, drop, replicate}
use Rattle.sha256_block.specs.Block.{hash_blocks}

-- 3.1: the byte with a number, 0 the lowest; and the lowest bytes of a number, the highest of them first
abbrev pub byte_of : ℕ → ℕ → ℕ
byte_of k x = x / 256 ^ k % 256

unfoldable pub big_endian : ℕ → ℕ → List ℕ
big_endian zero x = []
big_endian (suc k) x = byte_of k x ∷ big_endian k x

-- 5.1.1: the zero bytes behind the byte 0x80, the fewest with which message, 0x80 and zeros are 56 bytes modulo 64
abbrev pub zeros : ℕ → ℕ
zeros n = (119 - n % 64) % 64

-- 5.1.1: the padding of a message of n bytes: the bit 1, the zeros, and the length in bits as a number of 64 bits.
-- FIPS 180-4 has no message of 2^64 bits or more; there the length is taken modulo 2^64, which is ours.
unfoldable pub padding : ℕ → List ℕ
padding n = 0x80 ∷ (replicate (zeros n) 0 ++ big_endian 8 (n * 8 % 2 ^ 64))

-- 3.1: the number that bytes write, the highest first
unfoldable pub numeral : List ℕ → ℕ
numeral [] = 0
numeral (b ∷ s) = b * 256 ^ length s + numeral s

-- 5.1.1 as a proposition about a message: padded it is whole blocks, its zeros are the fewest, and its last eight bytes write its
-- length in bits
pub record PaddedExactly (m : List ℕ) : Type 0 where
  pub blocks : length (m ++ padding (length m)) % 64 ≡ 0
  pub fewest : (k : ℕ) → (length m + 1 + k) % 64 ≡ 56 → zeros (length m) ≤ k
  pub last : numeral (drop (length (m ++ padding (length m)) - 8) (m ++ padding (length m))) ≡ length m * 8

-- every message that FIPS 180-4 has is padded so
abbrev pub PaddedBelow : Type 0
PaddedBelow = (m : List ℕ) → length m * 8 < 2 ^ 64 → PaddedExactly m

-- 5.3.3: the initial hash value, eight words
abbrev pub H0 : List ℕ
H0 = 0x6a09e667 ∷ 0xbb67ae85 ∷ 0x3c6ef372 ∷ 0xa54ff53a ∷ 0x510e527f ∷ 0x9b05688c ∷ 0x1f83d9ab ∷ 0x5be0cd19 ∷ []

-- 6.2.2, end: the bytes of the hash value
unfoldable pub digest_of : List ℕ → List ℕ
digest_of [] = []
digest_of (x ∷ h) = big_endian 4 x ++ digest_of h

unfoldable pub sha256 : List ℕ → List ℕ
sha256 m = digest_of (hash_blocks H0 (m ++ padding (length m)))
