-- What rules 26 to 29 say, as plain propositions, and that the tests say exactly this. Each statement that ends in `Exactly` is proved under the same
-- name in small letters: proofs/Conditions.antt, Readings.antt, Permission.antt and FileRules.antt.
use Rattle.std.specs.Prelude.{ℕ, ◌+◌, ◌≤◌, ◌<◌, ◌≡◌, ◌↔◌, ◌⊎◌, true, length}
use mathlib.Core.List.{List, [], ◌∷◌, ◌++◌, flat_map}
use Rattle.std.proofs.Math.Option.{some}
use Rattle.std.proofs.Math.ListN.{get_elem?}
use Rattle.field.specs.Number.{Bytes}
use Rattle.rules.specs.Rules.{all, first_failing, Every, Some}
use Rattle.rules.specs.Meaning.{Meaning, meaning, FirstBroken}
use Rattle.sha256.specs.Message.{sha256}
use Rattle.rsa.specs.Meaning.{Verifies}
use Rattle.policy_grammar.specs.Grammar.{Digests, Launch, launch_type, custom_type, stm_type, Element, Signature, PolicyList, list_bytes, Reading, Makes}
use Rattle.policy_grammar.specs.Grammar as Grammar
use Rattle.policy_grammar.specs.Sizes.{least_file, largest_file}
use Rattle.policy_record.specs.Record.{sha256_alg, policy_hash}
use Rattle.decision.specs.Answers.{file_rules}
use Rattle.answer.specs.Answer.{no_list}
use Rattle.decision.specs.Lists.{Criteria, file_placed, of_grammar, lists_of, measure, hash_matches, judged, names, is_stm, names_stm, signed_bytes, some_permits, lowest_permitting}

-- 26
pub record Placed (w : List ℕ) (window base size : ℕ) : Type 0 where
  pub least : least_file ≤ size
  pub most : size ≤ largest_file
  pub from : window ≤ base
  pub to : base + size ≤ window + length w

-- 27: the grammar makes the file from some reading
abbrev pub OfGrammar : List ℕ → Type 0
OfGrammar file = (r : Reading) × Makes r file

-- 28 and 29 speak of the reading that makes the file: there is one, and something is so of it
abbrev pub SomeReading : List ℕ → (Reading → Type 0) → Type 0
SomeReading file P = (r : Reading) × (Makes r file × P r)

-- 28, of the lists of a reading
abbrev pub HashMatches : Reading → List ℕ → Type 0
HashMatches reading r = sha256 (flat_map measure reading.lists) ≡ policy_hash r

-- the rules of the file, in the order they are tried
abbrev pub file_meanings : List ℕ → List ℕ → List Meaning
file_meanings file r = meaning 27 (OfGrammar file) ∷ meaning 28 (SomeReading file (λ (reading : Reading). HashMatches reading r)) ∷ []

-- 29. Digests with HashAlg 0x000B have a digest among them
pub record DigestsName (digest : List ℕ) (d : Digests) : Type 0 where
  pub algorithm : d.hash_alg ≡ sha256_alg
  pub named : Some (λ (x : List ℕ). digest ≡ x) d.digests

-- an element of type 0x10 names the digest and has a SINITMinVersion that AcmVersion reaches
pub record Names (k : Criteria) (e : Element) : Type 0 where
  pub launch : Launch
  pub body : e.body ≡ Grammar.launch launch
  pub digests : DigestsName k.digest launch.digests
  pub version : launch.sinit_min_version ≤ k.acm_version

-- an element of type 0x14 names a digest
pub record NamesStm (digest : List ℕ) (e : Element) : Type 0 where
  pub stm : Digests
  pub body : e.body ≡ Grammar.stm stm
  pub digests : DigestsName digest stm

-- there is an STM image, and some 0x14 element names its digest
pub record StmNamed (image : List ℕ) (es : List Element) : Type 0 where
  pub given : 0 < length image
  pub named : Some (NamesStm (sha256 image)) es

-- the list number i, signed so: its signature verifies, and its counter is at least the record's
pub record SigningHolds (k : Criteria) (i : ℕ) (l : PolicyList) (g : Signature) : Type 0 where
  pub verified : Verifies g.key g.signature (signed_bytes l g)
  pub counter : k.counter i ≤ g.counter

-- the list number i permits
pub record Permits (k : Criteria) (i : ℕ) (l : PolicyList) : Type 0 where
  -- where it is signed
  pub signed : (g : Signature) → l.signing ≡ Grammar.signed g → SigningHolds k i l g
  pub judged : Every (λ (e : Element). (e.type ≡ launch_type) ⊎ ((e.type ≡ custom_type) ⊎ (e.type ≡ stm_type))) l.elements
  -- one and the same element of type 0x10
  pub names : Some (Names k) l.elements
  -- "A list that holds a 0x14 element permits only if .."
  pub names_stm : Some (λ (e : Element). e.type ≡ stm_type) l.elements → StmNamed k.stm l.elements

-- the list number i of a reading permits
pub record PermitsAt (reading : Reading) (k : Criteria) (i : ℕ) : Type 0 where
  pub list : PolicyList
  pub stands : get_elem? reading.lists i ≡ some list
  pub permits : Permits k i list

pub record SomePermits (reading : Reading) (k : Criteria) : Type 0 where
  pub index : ℕ
  pub permits : PermitsAt reading k index

-- "The lowest permitting list is reported."
pub record Lowest (reading : Reading) (k : Criteria) (i : ℕ) : Type 0 where
  pub permits : PermitsAt reading k i
  pub lowest : (j : ℕ) → j < i → PermitsAt reading k j → ⊥

-- THE TESTS SAY THIS

abbrev pub PlacedExactly : Type 0
PlacedExactly = (w : List ℕ) (window base size : ℕ) → (all (file_placed w window base size) ≡ true) ↔ Placed w window base size

abbrev pub GrammarExactly : Type 0
GrammarExactly = (file : List ℕ) → Bytes file → length file ≤ largest_file → (of_grammar file ≡ true) ↔ OfGrammar file

-- the grammar makes the file, a string of bytes of a size that is read, from the reading
pub record Reads (file : List ℕ) (reading : Reading) : Type 0 where
  pub bytes : Bytes file
  pub most : length file ≤ largest_file
  pub makes : Makes reading file

-- the lists that rules 28 and 29 speak of are those of the reading that makes the file
abbrev pub ListsExactly : Type 0
ListsExactly = (file : List ℕ) (reading : Reading) → Reads file reading → lists_of file ≡ reading.lists

abbrev pub HashExactly : Type 0
HashExactly = (file r : List ℕ) (reading : Reading) → Reads file reading → (hash_matches file r ≡ true) ↔ HashMatches reading r

-- the number of the first rule of the file that fails is that of the first that is broken
abbrev pub FileExactly : Type 0
FileExactly =
    (file r : List ℕ) → Bytes file → length file ≤ largest_file
    → (n : ℕ) → 0 < n → (first_failing (file_rules file r) ≡ n) ↔ FirstBroken (file_meanings file r) n

abbrev pub PermitsExactly : Type 0
PermitsExactly = (file : List ℕ) (k : Criteria) (reading : Reading) → Reads file reading → (some_permits file k ≡ true) ↔ SomePermits reading k

-- a list that permits is reported exactly where it permits and no lower one does, and 255 exactly where none does
abbrev pub LowestExactly : Type 0
LowestExactly =
    (file : List ℕ) (k : Criteria) (reading : Reading) → Reads file reading
    → ((i : ℕ) → i < no_list → (lowest_permitting file k ≡ i) ↔ Lowest reading k i)
    × ((lowest_permitting file k ≡ no_list) ↔ (SomePermits reading k → ⊥))

-- the bytes of a signed list are those that are signed, and then the signature
abbrev pub SignedUpToSignature : Type 0
SignedUpToSignature = (l : PolicyList) (g : Signature) → l.signing ≡ Grammar.signed g → list_bytes l ≡ signed_bytes l g ++ g.signature

-- of an element with the body of another type, only the type is judged: its size, its control and its body change nothing
abbrev pub another : ℕ → ℕ → ℕ → List ℕ → Element
another size type control b = record { size = size; type = type; control = control; body = Grammar.other b }

abbrev pub BodyFree : Type 0
BodyFree =
    (k : Criteria) (digest : List ℕ) (type size control size' control' : ℕ) (b b' : List ℕ)
    → (judged (another size type control b) ≡ judged (another size' type control' b'))
    × (names k (another size type control b) ≡ names k (another size' type control' b'))
    × (is_stm (another size type control b) ≡ is_stm (another size' type control' b'))
    × (names_stm digest (another size type control b) ≡ names_stm digest (another size' type control' b'))
