-- The reading that given numbers and bodies describe, worked out part by part from their front; the contracts cite it. That it is the one which
-- specs/Descriptions.antt says is `described_exactly` of proofs/Described.antt.
use Rattle.std.specs.Prelude.{ℕ, zero, suc, ◌+◌, ◌^◌, Bool, cond, ◌&&◌, ◌||◌, length, take, drop, get_or, leb, ltb, eqb}
use mathlib.Core.List.{List, [], ◌∷◌, flat_map}
use Rattle.std.proofs.Math.Option.{Option, some, none, map}
use Rattle.policy_grammar.specs.Grammar.{Body, Element, element_bytes, launch_type, custom_type, PolicyList, list_bytes, Reading, file_bytes, mark_characters, four_zeros, three_zeros, most_lists, unsigned_algorithm}
use Rattle.policy_grammar.specs.Grammar as Grammar
use Rattle.policy_grammar.specs.Layout as Layout
use Rattle.policy_grammar.specs.Layout.{known_version}
use Rattle.policy_grammar.specs.Parser.{value_of, filling}
use Rattle.policy_writer.specs.Descriptions.{element_numbers, element_body, list_numbers, list_bodies, numbers_of, bodies_of}

-- a part of a description: its numbers, its bodies and the bytes that it has in the file, and the part at the front of given numbers and bodies
pub record Part : Type 1 where
  pub Value : Type 0
  pub numbers : Value → List ℕ
  pub bodies : Value → List ℕ
  pub bytes : Value → List ℕ
  pub front : List ℕ → List ℕ → Option Value

abbrev pub and_then : {A B : Type 0} → Option A → (A → Option B) → Option B
and_then none f = none
and_then (some a) f = f a

-- so many parts, each behind the numbers and the bodies of the one before
unfoldable pub row : (P : Part) → ℕ → List ℕ → List ℕ → Option (List P.Value)
row P zero ns bs = some []
row P (suc k) ns bs =
    and_then (P.front ns bs) (λ a. map (λ l. a ∷ l) (row P k (drop (length (P.numbers a)) ns) (drop (length (P.bodies a)) bs)))

abbrev pub times : ℕ → Part → Part
times n P =
    record {
      Value = List P.Value;
      numbers = flat_map P.numbers;
      bodies = flat_map P.bodies;
      bytes = flat_map P.bytes;
      front = row P n;
    }

-- an element: a type that is written, a size of 32 bits, and a body that is there and is filled by the grammar
abbrev pub written_type : ℕ → Bool
written_type type = eqb type launch_type || eqb type custom_type

abbrev pub size_fits : ℕ → Bool
size_fits size = ltb size (256 ^ 4)

abbrev pub element_with : ℕ → ℕ → ℕ → Body → Element
element_with type control n b = record { size = 12 + n; type = type; control = control; body = b }

abbrev pub element_of : ℕ → ℕ → ℕ → List ℕ → Option Element
element_of type control n bs =
    cond (written_type type && (size_fits (12 + n) && leb n (length bs)))
    (map (element_with type control n) (value_of (filling (Layout.body type) (take n bs))))
    none

unfoldable pub front_element : List ℕ → List ℕ → Option Element
front_element ns bs = cond (leb 3 (length ns)) (element_of (get_or ns 0 0) (get_or ns 1 0) (get_or ns 2 0) bs) none

abbrev pub element : Part
element = record { Value = Element; numbers = element_numbers; bodies = element_body; bytes = element_bytes; front = front_element }

-- a list: a version of the grammar, so many elements, and an elements size of 32 bits
abbrev pub list_of : ℕ → ℕ → List Element → PolicyList
list_of version size es =
    record {
      version = version;
      signature_algorithm = unsigned_algorithm;
      elements_size = size;
      elements = es;
      signing = Grammar.unsigned;
    }

abbrev pub list_with : ℕ → List Element → PolicyList
list_with version es = list_of version (length (flat_map element_bytes es)) es

abbrev pub sized_list : ℕ → List Element → Option PolicyList
sized_list version es = cond (size_fits (length (flat_map element_bytes es))) (some (list_with version es)) none

unfoldable pub front_list : List ℕ → List ℕ → Option PolicyList
front_list ns bs =
    cond (leb 2 (length ns) && known_version (get_or ns 0 0))
    (and_then (row element (get_or ns 1 0) (drop 2 ns) bs) (sized_list (get_or ns 0 0)))
    none

abbrev pub list : Part
list = record { Value = PolicyList; numbers = list_numbers; bodies = list_bodies; bytes = list_bytes; front = front_list }

-- a file: one to eight lists, and nothing after
abbrev pub reading_of : ℕ → List PolicyList → Reading
reading_of count ls =
    record {
      mark = mark_characters;
      mark_zeros = four_zeros;
      reserved = three_zeros;
      list_count = count;
      lists = ls;
    }

abbrev pub reading_with : List PolicyList → Reading
reading_with ls = reading_of (length ls) ls

abbrev pub whole_reading : List ℕ → List ℕ → List PolicyList → Option Reading
whole_reading ns bs ls =
    cond (leb (length ns) (1 + length (flat_map list_numbers ls)) && leb (length bs) (length (flat_map list_bodies ls))) (some (reading_with ls)) none

unfoldable pub described : List ℕ → List ℕ → Option Reading
described ns bs =
    cond (leb 1 (length ns) && (leb 1 (get_or ns 0 0) && leb (get_or ns 0 0) most_lists))
    (and_then (row list (get_or ns 0 0) (drop 1 ns) bs) (whole_reading ns bs))
    none

abbrev pub file : Part
file = record { Value = Reading; numbers = numbers_of; bodies = bodies_of; bytes = file_bytes; front = described }
