-- Demand 3, as one statement about a string and every number asked: `Demand3`, which proofs/Demand3.antt proves as `demand3`.
-- Each answer is looked at through the string; what is then seen is that part of the one reading from which the grammar makes the string,
-- and nothing exactly where that reading has no such part, as for every string that is refused. The place of a string is that of its first fault where it is
-- refused with 27, and else 0.
use Rattle.std.specs.Prelude.{ℕ, ◌≡◌, cond, List, length}
use Rattle.std.proofs.Math.Option.{Option, some, none, map}
use Rattle.std.proofs.Math.ListN.{get_elem?}
use Rattle.field.specs.Number.{Bytes}
use Rattle.policy_grammar.specs.Grammar.{body_bytes, Element, Signature, Reading}
use Rattle.policy_grammar.specs.Decode.{accepted, fault_place}
use Rattle.policy_grammar.specs.Sizes.{sized}
use Rattle.policy_answers.specs.Answers.{file_shown, lists_in, elements_in, list_answer, key_answer, signature_answer, element_answer}
use Rattle.policy_answers.specs.Seen.{number_of, count_of, place_of, seen_list, list_part, seen_part, signature_in, seen_element, seen_body}
use Rattle.policy_reader.specs.Readings.{IsReadingOf, IsPlaceOf}
use Rattle.policy.specs.declared.Answers.{Answers}

-- "26 for a string outside 36 to 65,536 bytes, else 27 or the reading"
abbrev pub number_for : List ℕ → Option Reading → ℕ
number_for s none = cond (sized s) 27 26
number_for s (some r) = 0

-- what is answered where o is the reading and p the place of the first fault: in each part the offsets at which it stands
abbrev pub answers_of : List ℕ → Option Reading → ℕ → ℕ → ℕ → Answers
answers_of s o p i j =
    record {
      file = file_shown s o p;
      list = list_answer o i;
      key = key_answer o i;
      signature = signature_answer o i;
      element = element_answer o i j;
    }

-- the answers for the list number i and the element number j of it show the parts of the reading o, where they stand, and the place p
pub record Shows (s : List ℕ) (o : Option Reading) (p i j : ℕ) (a : Answers) : Type 0 where
  pub number : number_of a.file ≡ number_for s o
  pub count : count_of a.file ≡ length (lists_in o)
  pub fault : place_of a.file ≡ p
  pub list : seen_list s a.list ≡ map list_part (get_elem? (lists_in o) i)
  pub key : seen_part s a.key ≡ map (λ (g : Signature). g.key) (signature_in (get_elem? (lists_in o) i))
  pub signature : seen_part s a.signature ≡ map (λ (g : Signature). g.signature) (signature_in (get_elem? (lists_in o) i))
  pub element : seen_element s a.element ≡ get_elem? (elements_in (get_elem? (lists_in o) i)) j
  pub body : seen_body s a.element ≡ map (λ (e : Element). body_bytes e.body) (get_elem? (elements_in (get_elem? (lists_in o) i)) j)
  pub places : a ≡ answers_of s o p i j

-- the contracts of `read`, `list`, `key`, `signature` and `element` say that they answer `answers_of s (accepted s) (fault_place s) i j`
abbrev pub Demand3 : Type 0
Demand3 =
    (s : List ℕ) → Bytes s
    → (o : Option Reading) × (p : ℕ) × IsReadingOf s o × IsPlaceOf s o p × ((i j : ℕ) → Shows s o p i j (answers_of s (accepted s) (fault_place s) i j))

-- the same of the answers of one call
abbrev pub Answered : List ℕ → ℕ → ℕ → Answers → Type 0
Answered s i j a = (o : Option Reading) × (p : ℕ) × IsReadingOf s o × IsPlaceOf s o p × Shows s o p i j a
