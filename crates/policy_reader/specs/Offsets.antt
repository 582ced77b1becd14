-- The list and the element at an offset of a string, by the grammar: the one that stands there, and no other; or that none does.
use Rattle.std.specs.Prelude.{ℕ, ◌≡◌, List, ◌++◌, drop}
use Rattle.std.proofs.Math.Option.{Option, some, none, map}
use Rattle.policy_grammar.specs.Grammar.{Element, element_bytes, ValidElement, PolicyList, list_bytes, ValidList}
use Rattle.policy_answers.specs.Types.{ListAnswer, ElementAnswer}
use Rattle.policy_answers.specs.Answers.{list_shown, element_shown}
use Rattle.policy_answers.specs.Seen.{seen_list, list_part, seen_element}

-- a value that obeys the rules stands at an offset: its bytes are the first of what is left there
pub record StandsAt {A : Type 0} (make : A → List ℕ) (Valid : A → Type 0) (s : List ℕ) (at : ℕ) (a : A) : Type 0 where
  pub obeys : Valid a
  pub rest : List ℕ
  pub stands : drop at s ≡ make a ++ rest

-- it is the only one, or there is none
abbrev pub OnlyAt : {A : Type 0} → (A → List ℕ) → (A → Type 0) → List ℕ → ℕ → Option A → Type 0
OnlyAt {A} make Valid s at none = (a : A) → StandsAt make Valid s at a → ⊥
OnlyAt {A} make Valid s at (some a) = StandsAt make Valid s at a × ((b : A) → StandsAt make Valid s at b → b ≡ a)

-- the answer is for the list that stands at an offset of the string, if one does
pub record ListAtExactly (s : List ℕ) (at : ℕ) (answer : ListAnswer) : Type 0 where
  pub list : Option PolicyList
  pub only : OnlyAt list_bytes ValidList s at list
  pub places : answer ≡ list_shown at list
  pub seen : seen_list s answer ≡ map list_part list

-- the answer is for the element that stands at an offset of the string, if one does
pub record ElementAtExactly (s : List ℕ) (at : ℕ) (answer : ElementAnswer) : Type 0 where
  pub element : Option Element
  pub only : OnlyAt element_bytes ValidElement s at element
  pub places : answer ≡ element_shown at element
  pub seen : seen_element s answer ≡ element
