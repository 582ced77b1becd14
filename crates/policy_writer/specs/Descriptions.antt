-- Descriptions of policy files: which numbers and bodies describe which reading of the grammar. `Describe` is the one definition that says it; it runs from
-- a reading to its numbers and bodies, and takes nothing apart. The sentences in quotes are those of request (vii).
use Rattle.std.specs.Prelude.{ℕ, ◌≡◌, ◌⊎◌, length}
use mathlib.Core.List.{List, [], ◌∷◌, flat_map}
use Rattle.policy_grammar.specs.Grammar.{All, body_bytes, launch_type, custom_type, Element, PolicyList, Reading, ValidReading}
use Rattle.policy_grammar.specs.Grammar as Grammar

-- of an element the numbers are its type, its control and the length of its body; its body is the bytes of it, of a launch element those from
-- SINITMinVersion to the last digest
abbrev pub element_numbers : Element → List ℕ
element_numbers e = e.type ∷ e.control ∷ length (body_bytes e.body) ∷ []

abbrev pub element_body : Element → List ℕ
element_body e = body_bytes e.body

-- of a list its version and how many elements it has, then the numbers of these; its bodies stand one behind the other
abbrev pub list_numbers : PolicyList → List ℕ
list_numbers l = l.version ∷ length l.elements ∷ flat_map element_numbers l.elements

abbrev pub list_bodies : PolicyList → List ℕ
list_bodies l = flat_map element_body l.elements

-- of a file how many lists it has, then the numbers of these
abbrev pub numbers_of : Reading → List ℕ
numbers_of r = r.list_count ∷ flat_map list_numbers r.lists

abbrev pub bodies_of : Reading → List ℕ
bodies_of r = flat_map list_bodies r.lists

-- "unsigned lists, given as descriptions of type 0x10 and type 3 elements"
abbrev pub WrittenType : Element → Type 0
WrittenType e = (e.type ≡ launch_type) ⊎ (e.type ≡ custom_type)

pub record Describable (l : PolicyList) : Type 0 where
  pub unsigned : l.signing ≡ Grammar.unsigned
  pub types : All WrittenType l.elements

-- the numbers and the bodies describe the reading: it is of the grammar, of unsigned lists with elements of these two types, and they are its own
pub record Describe (numbers bodies : List ℕ) (r : Reading) : Type 0 where
  pub valid : ValidReading r
  pub describable : All Describable r.lists
  pub numbered : numbers_of r ≡ numbers
  pub embodied : bodies_of r ≡ bodies
