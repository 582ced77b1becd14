-- What the reader answers, as a kind and an array of numbers.
use Rattle.std.specs.Prelude.{ℕ, ◌≡◌, List, [], ◌∷◌, replicate}
use Rattle.std.specs.Prelude.{Some, None}
use Rattle.policy_answers.specs.declared.ListAt.{ListAt}
use Rattle.policy_answers.specs.declared.ElementAt.{ElementAt}
use Rattle.policy_answers.specs.declared.ElementBody.{ElementBody}
use Rattle.policy_answers.specs.declared.ElementBody.TheVariants.{Launch, Stm, Custom, Unjudged}
use Rattle.policy_answers.specs.Types.{ListAnswer, Signed, ElementAnswer}
use Rattle.policy_grammar.specs.Grammar.{launch_type, custom_type, stm_type}
use Rattle.policy_reader.specs.Offsets.{ListAtExactly, ElementAtExactly}

abbrev pub kind_by : Signed → ℕ
kind_by None = 1
kind_by (Some g) = 2

abbrev pub list_kind : ListAnswer → ℕ
list_kind None = 0
list_kind (Some l) = kind_by l.signing

abbrev pub fields_by : ListAt → Signed → List ℕ
fields_by l None = l.start ∷ l.size ∷ l.version ∷ l.elements ∷ l.elements_size ∷ 0 ∷ 0 ∷ 0 ∷ 0 ∷ []
fields_by l (Some g) = l.start ∷ l.size ∷ l.version ∷ l.elements ∷ l.elements_size ∷ g.counter ∷ g.key_size ∷ g.key ∷ g.signature ∷ []

abbrev pub list_fields : ListAnswer → List ℕ
list_fields None = replicate 9 0
list_fields (Some l) = fields_by l l.signing

abbrev pub kind_of : ElementBody → ℕ
kind_of (Launch m v a n) = 1
kind_of Custom = 2
kind_of (Unjudged type) = 3
kind_of (Stm a n) = 4

abbrev pub element_kind : ElementAnswer → ℕ
element_kind None = 0
element_kind (Some e) = kind_of e.body

-- the kind says the type of a launch, a custom or an STM element
abbrev pub fields_of : ElementAt → ElementBody → List ℕ
fields_of e (Launch m v a n) = e.start ∷ e.size ∷ launch_type ∷ e.control ∷ m ∷ v ∷ a ∷ n ∷ []
fields_of e Custom = e.start ∷ e.size ∷ custom_type ∷ e.control ∷ 0 ∷ 0 ∷ 0 ∷ 0 ∷ []
fields_of e (Unjudged type) = e.start ∷ e.size ∷ type ∷ e.control ∷ 0 ∷ 0 ∷ 0 ∷ 0 ∷ []
fields_of e (Stm a n) = e.start ∷ e.size ∷ stm_type ∷ e.control ∷ 0 ∷ 0 ∷ a ∷ n ∷ []

abbrev pub element_fields : ElementAnswer → List ℕ
element_fields None = replicate 8 0
element_fields (Some e) = fields_of e e.body

-- the kind and the numbers are those of the list that stands at an offset of the string, if one does
pub record ListNumbersAt (s : List ℕ) (at kind : ℕ) (fields : List ℕ) : Type 0 where
  pub answer : ListAnswer
  pub exactly : ListAtExactly s at answer
  pub kind_is : kind ≡ list_kind answer
  pub fields_are : fields ≡ list_fields answer

-- the same of the element
pub record ElementNumbersAt (s : List ℕ) (at kind : ℕ) (fields : List ℕ) : Type 0 where
  pub answer : ElementAnswer
  pub exactly : ElementAtExactly s at answer
  pub kind_is : kind ≡ element_kind answer
  pub fields_are : fields ≡ element_fields answer
