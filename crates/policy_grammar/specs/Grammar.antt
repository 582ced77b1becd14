-- The grammar of policy files: the fields of a file in file order, the bytes that they make, and the rules that they obey.
-- A reading gives every field its value, sizes and counts included, and its bytes are these values joined; nothing here takes bytes apart.
-- The sentences in quotes are those of the requirements, section 'Policy'; (8), (16) and (32) there are a number's bits. Each part stands before what holds it.
use Rattle.std.specs.Prelude.{ℕ, ◌≤◌, ◌<◌, ◌^◌, ◌≡◌, ◌⊎◌, ◌≢◌, cond, ◌||◌, length, eqb}
use mathlib.Core.List.{List, [], ◌∷◌, ◌++◌, flat_map}
use Rattle.field.specs.Number as Number

-- THE FIELDS

-- "HashAlg (16), count (16), then exactly that many digests"
pub record Digests : Type 0 where
  pub hash_alg : ℕ
  pub count : ℕ
  pub digests : List (List ℕ)

-- "Type 0x10 body: SINITMinVersion (8), reserved (8), .."
pub record Launch : Type 0 where
  pub sinit_min_version : ℕ
  pub reserved : ℕ
  pub digests : Digests

-- the body of an element of type 0x10, of an element of type 0x14, which is digests alone, or "the body of another type", which "may hold anything"
pub data Body : Type 0 where
  launch : Launch → Body
  stm : Digests → Body
  other : List ℕ → Body

-- "Element: size (32) ..; type (32), control (32), body"
pub record Element : Type 0 where
  pub size : ℕ
  pub type : ℕ
  pub control : ℕ
  pub body : Body

-- "counter (16), key size (16) 256 or 384, key, signature of that size"
pub record Signature : Type 0 where
  pub counter : ℕ
  pub key_size : ℕ
  pub key : List ℕ
  pub signature : List ℕ

pub data Signing : Type 0 where
  unsigned : Signing
  signed : Signature → Signing

-- "List: version (16) ..; signature algorithm (16) ..; elements size (32); elements ..; if signed, .."
pub record PolicyList : Type 0 where
  pub version : ℕ
  pub signature_algorithm : ℕ
  pub elements_size : ℕ
  pub elements : List Element
  pub signing : Signing

-- "File: the 28 characters .. and 4 zeros; 3 zeros; list count (8) ..; that many lists; nothing after"
pub record Reading : Type 0 where
  pub mark : List ℕ
  pub mark_zeros : List ℕ
  pub reserved : List ℕ
  pub list_count : ℕ
  pub lists : List PolicyList

-- THE BYTES

abbrev pub digests_bytes : Digests → List ℕ
digests_bytes d = Number.bytes 2 d.hash_alg ++ (Number.bytes 2 d.count ++ flat_map (λ (x : List ℕ). x) d.digests)

abbrev pub launch_bytes : Launch → List ℕ
launch_bytes b = Number.bytes 1 b.sinit_min_version ++ (Number.bytes 1 b.reserved ++ digests_bytes b.digests)

abbrev pub body_bytes : Body → List ℕ
body_bytes (launch b) = launch_bytes b
body_bytes (stm d) = digests_bytes d
body_bytes (other b) = b

abbrev pub element_bytes : Element → List ℕ
element_bytes e =
    Number.bytes 4 e.size ++ (Number.bytes 4 e.type ++ (Number.bytes 4 e.control ++ body_bytes e.body))

abbrev pub signature_bytes : Signature → List ℕ
signature_bytes g = Number.bytes 2 g.counter ++ (Number.bytes 2 g.key_size ++ (g.key ++ g.signature))

abbrev pub signing_bytes : Signing → List ℕ
signing_bytes unsigned = []
signing_bytes (signed g) = signature_bytes g

abbrev pub list_bytes : PolicyList → List ℕ
list_bytes l =
    Number.bytes 2 l.version
    ++ (Number.bytes 2 l.signature_algorithm
    ++ (Number.bytes 4 l.elements_size ++ (flat_map element_bytes l.elements ++ signing_bytes l.signing)))

abbrev pub file_bytes : Reading → List ℕ
file_bytes r =
    r.mark ++ (r.mark_zeros ++ (r.reserved ++ (Number.bytes 1 r.list_count ++ flat_map list_bytes r.lists)))

-- THE RULES. A number is below 256 to the power of its field's bytes; "a field with no value given here may hold anything".

abbrev pub All : {A : Type 0} → (A → Type 0) → List A → Type 0
All P [] = Unit {0}
All P (a ∷ l) = P a × All P l

-- "lengths 20 for 0x0004, 32 for 0x000B and 0x0012, 48 for 0x000C, 64 for 0x000D; others are not of the grammar": 0 for the others
unfoldable pub digest_length : ℕ → ℕ
digest_length alg =
    cond (eqb alg 0x0004) 20
    (cond (eqb alg 0x000B || eqb alg 0x0012) 32 (cond (eqb alg 0x000C) 48 (cond (eqb alg 0x000D) 64 0)))

pub record ValidDigests (d : Digests) : Type 0 where
  pub alg_fits : d.hash_alg < 256 ^ 2
  -- "others are not of the grammar"
  pub alg_known : 1 ≤ digest_length d.hash_alg
  pub count_fits : d.count < 256 ^ 2
  -- "then exactly that many digests"
  pub counted : length d.digests ≡ d.count
  pub digest_lengths : All (λ (x : List ℕ). length x ≡ digest_length d.hash_alg) d.digests

pub record ValidLaunch (b : Launch) : Type 0 where
  pub version_fits : b.sinit_min_version < 256 ^ 1
  pub reserved_fits : b.reserved < 256 ^ 1
  pub digests_valid : ValidDigests b.digests

-- the types of the elements that are judged: launch, custom and STM
abbrev pub launch_type : ℕ
launch_type = 0x10

abbrev pub custom_type : ℕ
custom_type = 3

abbrev pub stm_type : ℕ
stm_type = 0x14

-- an element of type 0x10, and no other, has a launch body, and one of type 0x14, and no other, an STM body
abbrev pub ValidBody : ℕ → Body → Type 0
ValidBody type (launch b) = (type ≡ launch_type) × ValidLaunch b
ValidBody type (stm d) = (type ≡ stm_type) × ValidDigests d
ValidBody type (other b) = (type ≢ launch_type) × (type ≢ stm_type)

pub record ValidElement (e : Element) : Type 0 where
  pub size_fits : e.size < 256 ^ 4
  pub type_fits : e.type < 256 ^ 4
  pub control_fits : e.control < 256 ^ 4
  -- "size (32) ≥ 12, the number of bytes of the whole element, itself counted"
  pub sized : e.size ≡ length (element_bytes e)
  pub body_valid : ValidBody e.type e.body

pub record ValidSignature (g : Signature) : Type 0 where
  pub counter_fits : g.counter < 256 ^ 2
  -- "key size (16) 256 or 384"
  pub key_size_known : (g.key_size ≡ 256) ⊎ (g.key_size ≡ 384)
  -- "key, signature of that size"
  pub key_sized : length g.key ≡ g.key_size
  pub signature_sized : length g.signature ≡ g.key_size

-- "signature algorithm (16) 0x0010 none or 0x0014 RSASSA"
abbrev pub unsigned_algorithm : ℕ
unsigned_algorithm = 0x0010

abbrev pub ValidSigning : ℕ → Signing → Type 0
ValidSigning algorithm unsigned = algorithm ≡ unsigned_algorithm
ValidSigning algorithm (signed g) = (algorithm ≡ 0x0014) × ValidSignature g

pub record ValidList (l : PolicyList) : Type 0 where
  -- "version (16) 0x0200 or 0x0201"
  pub version_known : (l.version ≡ 0x0200) ⊎ (l.version ≡ 0x0201)
  pub size_fits : l.elements_size < 256 ^ 4
  -- "elements that fill it exactly"; "a list may have no elements"
  pub filled : l.elements_size ≡ length (flat_map element_bytes l.elements)
  pub elements_valid : All ValidElement l.elements
  pub signing_valid : ValidSigning l.signature_algorithm l.signing

-- the 28 characters `Intel(R) TXT LCP_POLICY_DATA`
unfoldable pub mark_characters : List ℕ
mark_characters =
    73 ∷ 110 ∷ 116 ∷ 101 ∷ 108 ∷ 40 ∷ 82 ∷ 41 ∷ 32 ∷ 84 ∷ 88 ∷ 84 ∷ 32 ∷ 76 ∷ 67 ∷ 80 ∷ 95 ∷ 80 ∷ 79 ∷ 76 ∷ 73 ∷ 67 ∷ 89 ∷ 95 ∷ 68 ∷ 65 ∷ 84 ∷ 65 ∷ []

abbrev pub four_zeros : List ℕ
four_zeros = 0 ∷ 0 ∷ 0 ∷ 0 ∷ []

abbrev pub three_zeros : List ℕ
three_zeros = 0 ∷ 0 ∷ 0 ∷ []

abbrev pub most_lists : ℕ
most_lists = 8

pub record ValidReading (r : Reading) : Type 0 where
  -- "the 28 characters .. and 4 zeros; 3 zeros"
  pub marked : r.mark ≡ mark_characters
  pub mark_zeros : r.mark_zeros ≡ four_zeros
  pub reserved_zeros : r.reserved ≡ three_zeros
  -- "list count (8) 1 to 8"
  pub one_or_more : 1 ≤ r.list_count
  pub eight_or_fewer : r.list_count ≤ most_lists
  -- "that many lists"
  pub counted : length r.lists ≡ r.list_count
  pub lists_valid : All ValidList r.lists

-- the reading makes the string: it obeys the rules, and its bytes are the string, with "nothing after"
pub record Makes (r : Reading) (s : List ℕ) : Type 0 where
  pub valid : ValidReading r
  pub made : file_bytes r ≡ s
