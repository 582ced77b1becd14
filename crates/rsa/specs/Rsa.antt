-- RSASSA-PKCS1-v1_5 of RFC 8017 (PKCS #1, version 2.2): the verification of a signature, with SHA-256 and the public exponent 65,537, in whole numbers.
-- The definitions of the RFC come first, each under its section, with the RFC's letters and, in quotes, its words: (n, e) is the public key, k the length of
-- the modulus n in octets, M the message, S the signature, EM the encoded message. An octet string is the list of its octets from first to last.
use Rattle.std.specs.Prelude.{ℕ, ◌-◌, ◌%◌, ◌^◌, Bool, ◌&&◌, ◌||◌, List, [], ◌∷◌, ◌++◌, reverse, ltb, eqb, length, replicate}
use Rattle.field.specs.Field.{same}
use Rattle.sha256.specs.Message.{big_endian, numeral, sha256}

-- 4.1. I2OSP (x, xLen): "x = x_(xLen-1) 256^(xLen-1) + .. + x_1 256 + x_0", and the octets are these digits, x_(xLen-1) first
abbrev pub i2osp : ℕ → ℕ → List ℕ
i2osp x xLen = big_endian xLen x

-- 4.2. OS2IP (X): the same sum, of the octets of X, of which x_(xLen-1) is the first
abbrev pub os2ip : List ℕ → ℕ
os2ip X = numeral X

-- 5.2.2. RSAVP1 ((n, e), s): "m = s^e mod n"
abbrev e : ℕ
e = 65537

abbrev pub rsavp1 : ℕ → ℕ → ℕ
rsavp1 n s = s ^ e % n

-- 9.2. EMSA-PKCS1-v1_5-ENCODE (M, emLen)
-- Steps 1 and 2: T is the DER encoding of DigestInfo with H, the digest of M. By note 1 that is, for SHA-256, the octets of `digest_info_prefix` and then H;
-- the parameters in it are NULL, 05 00. No message of fewer than 2^64 bits is "too long".
abbrev pub digest_info_prefix : List ℕ
digest_info_prefix =
    0x30 ∷ 0x31 ∷ 0x30 ∷ 0x0d ∷ 0x06 ∷ 0x09 ∷ 0x60 ∷ 0x86 ∷ 0x48 ∷ 0x01 ∷ 0x65 ∷ 0x03 ∷ 0x04 ∷ 0x02 ∷ 0x01 ∷ 0x05 ∷ 0x00 ∷ 0x04 ∷ 0x20 ∷ []

abbrev pub digest_info : List ℕ → List ℕ
digest_info M = digest_info_prefix ++ sha256 M

-- Step 3 refuses an emLen below tLen + 11, which is 62; both sizes of a key are above it.
-- Steps 4 and 5: "PS consisting of emLen - tLen - 3 octets with hexadecimal value 0xff", "EM = 0x00 || 0x01 || PS || 0x00 || T"
abbrev pub encoded : List ℕ → ℕ → List ℕ
encoded T emLen = 0x00 ∷ 0x01 ∷ (replicate (emLen - length T - 3) 0xff ++ (0x00 ∷ T))

unfoldable pub encode : List ℕ → ℕ → List ℕ
encode M emLen = encoded (digest_info M) emLen

-- 8.2.2. RSASSA-PKCS1-V1_5-VERIFY ((n, e), M, S), where k is the length of n in octets: "valid signature" or not
-- Step 1: the length of S is k. Steps 2a and 2b: s = OS2IP (S), and RSAVP1 asks that s is "between 0 and n - 1". Step 2c: EM = I2OSP (m, k), which asks
-- that m is below 256^k. Steps 3 and 4: EM is EM' = EMSA-PKCS1-v1_5-ENCODE (M, k).
unfoldable pub rsassa_verify : ℕ → ℕ → List ℕ → List ℕ → Bool
rsassa_verify n k M S =
    let s : ℕ = os2ip S in
    let m : ℕ = rsavp1 n s in
    eqb (length S) k && (ltb s n && (ltb m (256 ^ k) && same (i2osp m k) (encode M k)))

-- HOW KEYS AND SIGNATURES ARE STORED, which the RFC leaves open

-- Key and signature are stored "in little-endian byte order" (Intel's MLE guide, D.3.1.1). Here alone they are turned round.
abbrev pub turned : List ℕ → List ℕ
turned stored = reverse stored

-- a key has so many octets
unfoldable pub is_key_size : ℕ → Bool
is_key_size k = eqb k 256 || eqb k 384

-- The key is the modulus as it is stored. k is the size of the key, also where its highest octets are zero. A modulus that is zero or even is none.
unfoldable pub verifies : List ℕ → List ℕ → List ℕ → Bool
verifies key signature message =
    let n : ℕ = os2ip (turned key) in
    let k : ℕ = length key in
    is_key_size k && (eqb (n % 2) 1 && rsassa_verify n k message (turned signature))
