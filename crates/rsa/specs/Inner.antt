-- What the contracts of functions cite that are not public: a string with the lowest byte first as a number, the encoded message of a digest,
-- the comparison of the numbers, and the lengths of the strings and the words.
use Rattle.std.specs.Prelude.{ℕ, zero, suc, ◌+◌, ◌*◌, ◌^◌, ◌%◌, ◌<◌, ◌≡◌, Bool, ◌&&◌, List, ◌++◌, ltb, eqb, length, get_or}
use Rattle.field.specs.Number.{number}
use Rattle.rsa.specs.Words.{value, power}
use Rattle.rsa.specs.Rsa.{rsavp1, digest_info_prefix, encoded}

-- the number of a string with the lowest byte first
abbrev pub little_endian : List ℕ → ℕ
little_endian s = number (length s) s

-- the encoded message of k bytes for the digest h
unfoldable pub encoded_digest : ℕ → List ℕ → List ℕ
encoded_digest k h = encoded (digest_info_prefix ++ h) k

-- a modulus n, a signature s and an encoded message m, as numbers: n is odd, s is below n, and s^65537 modulo n is m
unfoldable pub matches : ℕ → ℕ → ℕ → Bool
matches n s m = eqb (n % 2) 1 && (ltb s n && eqb (rsavp1 n s) m)

-- lengths in words: as many in each number as in the modulus, and not none
pub record Room (n s m x y : ℕ) : Type 0 where
  pub some : 0 < n
  pub signature : s ≡ n
  pub message : m ≡ n
  pub first : x ≡ n
  pub second : y ≡ n

-- the number of the first k words after f, which is given the place of each
unfoldable pub joined : (ℕ → ℕ → ℕ) → List ℕ → ℕ → ℕ
joined f t zero = 0
joined f t (suc k) = joined f t k + power k * f k (get_or t k 0)

-- a sum can be asked for at each of l places
abbrev pub Callable : (ℕ → ℕ → ℕ → Type 0) → ℕ → Type 0
Callable pre l = (j w c : ℕ) → j < l → pre j w c

-- at each of l places a sum is f of the place and the word there, and the carry
abbrev pub Sums : (ℕ → ℕ → ℕ → ℕ → Type 0) → (ℕ → ℕ → ℕ) → ℕ → Type 0
Sums sum f l = (j w c s : ℕ) → j < l → w < 2 ^ 32 → sum j w c s → s ≡ c + f j w

-- the words u and the last carry are the number that the sums give, with the first carry
abbrev pub Carried : (ℕ → ℕ → ℕ → ℕ → Type 0) → List ℕ → ℕ → List ℕ → ℕ → Type 0
Carried sum t first u last = (f : ℕ → ℕ → ℕ) → Sums sum f (length t) → value u + power (length t) * last ≡ first + joined f t (length t)
