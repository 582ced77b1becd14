-- The reading of a string, computed by the layout: an element and a list at the front of a string, and a whole file.
use Rattle.std.specs.Prelude.{ℕ, cond, List, length}
use Rattle.std.proofs.Math.Option.{Option, none}
use Rattle.policy_grammar.specs.Grammar.{Element, PolicyList, Reading}
use Rattle.policy_grammar.specs.Parser.{Read, Parser, value_of, fault_of, read}
use Rattle.policy_grammar.specs.Layout as Layout
use Rattle.policy_grammar.specs.Sizes.{sized}

abbrev pub element : Parser Element
element = read Layout.element

abbrev pub list : Parser PolicyList
list = read Layout.list

unfoldable pub reading : List ℕ → Read Reading
reading s = read (Layout.whole (length s)) s

-- the reading with which the reader accepts a string
unfoldable pub accepted : List ℕ → Option Reading
accepted s = cond (sized s) (value_of (reading s)) none

-- the place of the first fault in a string that it refuses with 27, 0 for every other string
unfoldable pub fault_place : List ℕ → ℕ
fault_place s = cond (sized s) (fault_of (reading s)) 0
