-- What the reader answers, given what it reads: each part with its numbers, and the offsets at which it stands in the file.
use Rattle.std.specs.Prelude.{ℕ, ◌+◌, cond, length, take, eqb}
use mathlib.Core.List.{List, [], flat_map}
use Rattle.std.proofs.Math.Option.{Option, some, none}
use Rattle.std.proofs.Math.ListN.{get_elem?}
use Rattle.std.specs.Prelude.{Some, None, Ok, Err}
use Rattle.policy_answers.specs.declared.FileFault.TheVariants.{WrongSize, NotOfGrammar}
use Rattle.policy_answers.specs.declared.ElementBody.{ElementBody}
use Rattle.policy_answers.specs.declared.ElementBody.TheVariants.{Launch, Stm, Custom, Unjudged}
use Rattle.policy_answers.specs.Types.{FileAnswer, ListAnswer, Signed, PartAnswer, ElementAnswer}
use Rattle.policy_grammar.specs.Grammar.{Body, custom_type, Element, element_bytes, Signing, PolicyList, list_bytes, Reading}
use Rattle.policy_grammar.specs.Grammar as Grammar
use Rattle.policy_grammar.specs.Sizes.{first_list, sized}
use Rattle.policy_grammar.specs.Decode.{accepted, fault_place}

-- a string, by its reading and the place of its first fault: 26 where its size is wrong, 27 at that place where it is not of the grammar, and else 0
-- with the list count
abbrev pub file_shown : List ℕ → Option Reading → ℕ → FileAnswer
file_shown s none p = Err (cond (sized s) (NotOfGrammar p) WrongSize)
file_shown s (some r) p = Ok r.list_count

-- what the reader answers of a string
abbrev pub file_answer : List ℕ → FileAnswer
file_answer s = file_shown s (accepted s) (fault_place s)

-- a list that starts at an offset, by its version, its elements size and what signs it: the elements stand 8 bytes on, and the key 4 bytes after them
abbrev pub signing_shown : ℕ → ℕ → ℕ → Signing → ListAnswer
signing_shown start version n Grammar.unsigned =
    Some (record { start = start; size = 8 + n; version = version; elements = start + 8; elements_size = n; signing = None })
signing_shown start version n (Grammar.signed g) =
    Some (record {
      start = start;
      size = 8 + n + 4 + g.key_size + g.key_size;
      version = version;
      elements = start + 8;
      elements_size = n;
      signing =
          Some (record {
            counter = g.counter;
            key_size = g.key_size;
            key = start + (8 + n) + 4;
            signature = start + (8 + n) + 4 + g.key_size;
          });
    })

abbrev pub list_shown : ℕ → Option PolicyList → ListAnswer
list_shown start none = None
list_shown start (some l) = signing_shown start l.version l.elements_size l.signing

abbrev pub list_size : ListAnswer → ℕ
list_size None = 0
list_size (Some l) = l.size

-- what stands in the body of an element: of type 0x10 a launch element, of type 0x14 an STM element, of type 3 custom, of another type unjudged
abbrev pub body_shown : ℕ → Body → ElementBody
body_shown type (Grammar.launch b) = Launch b.sinit_min_version b.reserved b.digests.hash_alg b.digests.count
body_shown type (Grammar.stm d) = Stm d.hash_alg d.count
body_shown type (Grammar.other b) = cond (eqb type custom_type) Custom (Unjudged type)

-- an element that starts at an offset
abbrev pub element_shown : ℕ → Option Element → ElementAnswer
element_shown start none = None
element_shown start (some e) = Some (record { start = start; size = e.size; control = e.control; body = body_shown e.type e.body })

abbrev pub element_size : ElementAnswer → ℕ
element_size None = 0
element_size (Some e) = e.size

-- the parts of a list
abbrev pub elements_of : ListAnswer → PartAnswer
elements_of None = None
elements_of (Some l) = Some (record { start = l.elements; len = l.elements_size })

-- of what signs it, if it is signed
abbrev pub key_by : Signed → PartAnswer
key_by None = None
key_by (Some g) = Some (record { start = g.key; len = g.key_size })

abbrev pub signature_by : Signed → PartAnswer
signature_by None = None
signature_by (Some g) = Some (record { start = g.signature; len = g.key_size })

abbrev pub key_of : ListAnswer → PartAnswer
key_of None = None
key_of (Some l) = key_by l.signing

abbrev pub signature_of : ListAnswer → PartAnswer
signature_of None = None
signature_of (Some l) = signature_by l.signing

-- BY NUMBER, of the reading with which a string is accepted; a refused string has no lists

abbrev pub lists_in : Option Reading → List PolicyList
lists_in none = []
lists_in (some r) = r.lists

abbrev pub elements_in : Option PolicyList → List Element
elements_in none = []
elements_in (some l) = l.elements

-- the offset of the value number k of those that stand one after the other from `start` on
abbrev pub place : {A : Type 0} → (A → List ℕ) → ℕ → List A → ℕ → ℕ
place f start xs k = start + length (flat_map f (take k xs))

abbrev pub list_in : ℕ → List PolicyList → ℕ → ListAnswer
list_in start ls i = list_shown (place list_bytes start ls i) (get_elem? ls i)

abbrev pub list_answer : Option Reading → ℕ → ListAnswer
list_answer o i = list_in first_list (lists_in o) i

abbrev pub key_answer : Option Reading → ℕ → PartAnswer
key_answer o i = key_of (list_answer o i)

abbrev pub signature_answer : Option Reading → ℕ → PartAnswer
signature_answer o i = signature_of (list_answer o i)

-- the elements of a list stand 8 bytes after its first
abbrev pub element_in : ℕ → List Element → ℕ → ElementAnswer
element_in start es j = element_shown (place element_bytes start es j) (get_elem? es j)

abbrev pub element_answer : Option Reading → ℕ → ℕ → ElementAnswer
element_answer o i j = element_in (place list_bytes first_list (lists_in o) i + 8) (elements_in (get_elem? (lists_in o) i)) j
