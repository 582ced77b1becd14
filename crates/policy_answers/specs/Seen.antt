-- What an answer shows of the string in which its part stands: the bytes at its offsets, with the numbers that it has; and a list of a reading in the same form.
use Rattle.std.specs.Prelude.{ℕ, zero, suc, take, drop}
use mathlib.Core.List.{List, [], ◌∷◌, flat_map}
use Rattle.std.proofs.Math.Option.{Option, some, none, map}
use Rattle.std.specs.Prelude.{Some, None, Ok, Err}
use Rattle.policy_answers.specs.declared.FileFault.{FileFault}
use Rattle.policy_answers.specs.declared.FileFault.TheVariants.{WrongSize, NotOfGrammar}
use Rattle.policy_answers.specs.declared.ElementBody.{ElementBody}
use Rattle.policy_answers.specs.declared.ElementBody.TheVariants.{Launch, Stm, Custom, Unjudged}
use Rattle.policy_answers.specs.Types.{FileAnswer, ListAnswer, Signed, PartAnswer, ElementAnswer}
use Rattle.policy_grammar.specs.Grammar.{Digests, Element, element_bytes, digest_length, launch_type, custom_type, stm_type, Signature, Signing, unsigned_algorithm, PolicyList, list_bytes}
use Rattle.policy_grammar.specs.Grammar as Grammar
use Rattle.policy_answers.specs.Parts.{part_at, body_of}

-- the number, the list count and the place of a string; "the place, 0 for all other numbers" than 27
abbrev pub fault_number : FileFault → ℕ
fault_number WrongSize = 26
fault_number (NotOfGrammar p) = 27

abbrev pub fault_offset : FileFault → ℕ
fault_offset WrongSize = 0
fault_offset (NotOfGrammar p) = p

abbrev pub number_of : FileAnswer → ℕ
number_of (Ok n) = 0
number_of (Err f) = fault_number f

abbrev pub count_of : FileAnswer → ℕ
count_of (Ok n) = n
count_of (Err f) = 0

abbrev pub place_of : FileAnswer → ℕ
place_of (Ok n) = 0
place_of (Err f) = fault_offset f

-- a list: all its bytes, and every field, its elements as bytes; an unsigned list has the algorithm 0x0010 and a signed one 0x0014
pub record ListPart : Type 0 where
  pub whole : List ℕ
  pub version : ℕ
  pub signature_algorithm : ℕ
  pub elements_size : ℕ
  pub elements : List ℕ
  pub signing : Signing

abbrev pub seen_algorithm : Signed → ℕ
seen_algorithm None = unsigned_algorithm
seen_algorithm (Some g) = 0x0014

abbrev pub seen_signing : List ℕ → Signed → Signing
seen_signing s None = Grammar.unsigned
seen_signing s (Some g) =
    Grammar.signed (record {
      counter = g.counter;
      key_size = g.key_size;
      key = part_at s g.key g.key_size;
      signature = part_at s g.signature g.key_size;
    })

abbrev pub seen_list : List ℕ → ListAnswer → Option ListPart
seen_list s None = none
seen_list s (Some l) =
    some (record {
      whole = part_at s l.start l.size;
      version = l.version;
      signature_algorithm = seen_algorithm l.signing;
      elements_size = l.elements_size;
      elements = part_at s l.elements l.elements_size;
      signing = seen_signing s l.signing;
    })

-- a key or a signature: its bytes
abbrev pub seen_part : List ℕ → PartAnswer → Option (List ℕ)
seen_part s None = none
seen_part s (Some p) = some (part_at s p.start p.len)

-- an element: every field; the case of its answer says the type of a launch, an STM or a custom element; the body is the bytes after the first 12. The
-- digests of an STM element follow 4 bytes of it, and those of a launch element 6, cut into pieces of the algorithm's length
unfoldable pub pieces : ℕ → ℕ → List ℕ → List (List ℕ)
pieces zero k b = []
pieces (suc n) k b = take k b ∷ pieces n k (drop k b)

abbrev pub seen_digests : ℕ → ℕ → List ℕ → Digests
seen_digests a n b = record { hash_alg = a; count = n; digests = pieces n (digest_length a) b }

abbrev pub seen_type : ElementBody → ℕ
seen_type (Launch m v a n) = launch_type
seen_type (Stm a n) = stm_type
seen_type Custom = custom_type
seen_type (Unjudged type) = type

-- b is the body's bytes
abbrev pub as_body : ElementBody → List ℕ → Grammar.Body
as_body (Launch m v a n) b = Grammar.launch (record { sinit_min_version = m; reserved = v; digests = seen_digests a n (drop 6 b) })
as_body (Stm a n) b = Grammar.stm (seen_digests a n (drop 4 b))
as_body Custom b = Grammar.other b
as_body (Unjudged type) b = Grammar.other b

abbrev pub seen_element : List ℕ → ElementAnswer → Option Element
seen_element s None = none
seen_element s (Some e) =
    some (record {
      size = e.size;
      type = seen_type e.body;
      control = e.control;
      body = as_body e.body (drop 12 (part_at s e.start e.size));
    })

-- the body of an element that is there: its bytes
abbrev pub seen_body : List ℕ → ElementAnswer → Option (List ℕ)
seen_body s e = map (λ (x : Element). body_of s e) (seen_element s e)

-- a list of a reading, with its elements as the bytes that they make
abbrev pub list_part : PolicyList → ListPart
list_part l =
    record {
      whole = list_bytes l;
      version = l.version;
      signature_algorithm = l.signature_algorithm;
      elements_size = l.elements_size;
      elements = flat_map element_bytes l.elements;
      signing = l.signing;
    }

-- the key and the signature of a list that is there and signed
abbrev pub signed_by : Signing → Option Signature
signed_by Grammar.unsigned = none
signed_by (Grammar.signed g) = some g

abbrev pub signature_in : Option PolicyList → Option Signature
signature_in none = none
signature_in (some l) = signed_by l.signing
