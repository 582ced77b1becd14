-- The reading of a string by the grammar: the one from which the grammar makes it, or that there is none; and the place of its first fault.
use Rattle.std.specs.Prelude.{ℕ, ◌≤◌, ◌<◌, ◌≡◌, ◌⊎◌, List, length}
use Rattle.std.proofs.Math.Option.{Option, some, none}
use Rattle.policy_grammar.specs.Grammar.{Reading, Makes}
use Rattle.policy_grammar.specs.Sizes.{least_file, largest_file}
use Rattle.policy_grammar.specs.Fault.{FirstFaultIn}
use Rattle.policy_answers.specs.Types.{FileAnswer}
use Rattle.policy_answers.specs.Answers.{file_shown}

-- the grammar makes the string from the reading that is there, or from none
abbrev pub MadeFrom : List ℕ → Option Reading → Type 0
MadeFrom s none = (r : Reading) → Makes r s → ⊥
MadeFrom s (some r) = Makes r s

-- o is the reading with which the string is accepted, of 36 to 65,536 bytes; no string of whatever length has two readings
pub record IsReadingOf (s : List ℕ) (o : Option Reading) : Type 0 where
  pub made : length s ≤ largest_file → MadeFrom s o
  pub outside : (length s < least_file) ⊎ (largest_file < length s) → o ≡ none
  pub one : (r r' : Reading) → Makes r s → Makes r' s → r ≡ r'

-- p is the place of a string with the reading o: where a string of 36 to 65,536 bytes has none, the offset of the first field at fault, and for every other
-- string 0; no string of whatever length has two first faults
pub record IsPlaceOf (s : List ℕ) (o : Option Reading) (p : ℕ) : Type 0 where
  pub first : least_file ≤ length s → length s ≤ largest_file → o ≡ none → FirstFaultIn s p
  pub outside : (length s < least_file) ⊎ (largest_file < length s) → p ≡ 0
  pub accepted : (r : Reading) → o ≡ some r → p ≡ 0
  pub one : (q q' : ℕ) → FirstFaultIn s q → FirstFaultIn s q' → q ≡ q'

-- the answer is for the reading with which the string is accepted, if one is, and else for the place of its first fault
pub record ReadExactly (s : List ℕ) (answer : FileAnswer) : Type 0 where
  pub reading : Option Reading
  pub is : IsReadingOf s reading
  pub place : ℕ
  pub is_place : IsPlaceOf s reading place
  pub shown : answer ≡ file_shown s reading place
