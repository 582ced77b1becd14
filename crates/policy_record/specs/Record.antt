-- The policy record: its fields, and rules 23 to 25.
use Rattle.std.specs.Prelude.{ℕ, ◌+◌, ◌*◌, ◌/◌, ◌%◌, ◌^◌, Bool, not, ◌||◌, List, [], ◌∷◌, leb, eqb, length, take, drop}
use Rattle.field.specs.Field.{number_at}
use Rattle.rules.specs.Rules.{Rule, rule, all}

-- THE FIELDS. "Record, exactly 70 bytes: version 0 (16), high byte 3; HashAlg 2 (16) = 0x000B; type 4 (8): 0 LIST, 1 ANY; SINITMinVersion 5 (8);
-- eight revocation counters 6 (16 each); control 22 (32); hash masks and others 26 to 37; PolicyHash 38 (32 bytes)." Of the masks one is read:
-- "LcpHashAlgMask (16 bits at offset 28)".

abbrev pub record_size : ℕ
record_size = 70

abbrev pub version_high : List ℕ → ℕ
version_high r = number_at r 0 2 / 256

abbrev pub known_version : ℕ
known_version = 3

abbrev pub hash_alg : List ℕ → ℕ
hash_alg r = number_at r 2 2

abbrev pub sha256_alg : ℕ
sha256_alg = 0x000B

abbrev pub policy_type : List ℕ → ℕ
policy_type r = number_at r 4 1

abbrev pub LIST : ℕ
LIST = 0

abbrev pub ANY : ℕ
ANY = 1

abbrev pub sinit_min_version : List ℕ → ℕ
sinit_min_version r = number_at r 5 1

-- that of the list number i; there are eight, and no file has a ninth list
abbrev pub revocation_counter : List ℕ → ℕ → ℕ
revocation_counter r i = number_at r (6 + 2 * i) 2

abbrev pub control : List ℕ → ℕ
control r = number_at r 22 4

abbrev pub lcp_hash_alg_mask : List ℕ → ℕ
lcp_hash_alg_mask r = number_at r 28 2

-- "the bit for SHA-256, 0x0008", which is 2^3
abbrev pub sha256_bit : ℕ
sha256_bit = 3

abbrev pub policy_hash : List ℕ → List ℕ
policy_hash r = take 32 (drop 38 r)

-- THE RULES

abbrev pub bit : ℕ → ℕ → Bool
bit k x = eqb (x / 2 ^ k % 2) 1

-- 23. "policy record"; "must have the bit for SHA-256"
unfoldable pub record_tests : List ℕ → List Bool
record_tests r =
    eqb (length r) record_size
    ∷ eqb (version_high r) known_version
    ∷ eqb (hash_alg r) sha256_alg
    ∷ (eqb (policy_type r) LIST || eqb (policy_type r) ANY)
    ∷ bit sha256_bit (lcp_hash_alg_mask r)
    ∷ []

-- 24. "Module flags bit 14 or 15 without control bit 1: 24."
unfoldable pub worthy_or_allowed : ℕ → List ℕ → Bool
worthy_or_allowed flags r = not (bit 14 flags || bit 15 flags) || bit 1 (control r)

-- 25. "AcmVersion below the record's SINITMinVersion"
unfoldable pub version_reached : ℕ → List ℕ → Bool
version_reached acm_version r = leb (sinit_min_version r) acm_version

-- the rules in the order they are tried
abbrev pub record_rules : List ℕ → ℕ → ℕ → List Rule
record_rules r flags acm_version =
    rule 23 (all (record_tests r))
    ∷ rule 24 (worthy_or_allowed flags r)
    ∷ rule 25 (version_reached acm_version r)
    ∷ []
