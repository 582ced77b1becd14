-- What the contracts of functions cite that are not public: an answer of the policy reader, and what it is the answer for.
use Rattle.std.specs.Prelude.{ℕ, ◌<◌, ◌^◌, ◌≡◌, Bool, true, false, cond, ◌&&◌, leb, length, drop, Some, None}
use mathlib.Core.List.{List, [], ◌∷◌, flat_map}
use Rattle.std.proofs.Math.Option.{Option, some, none}
use Rattle.rsa.specs.Rsa.{verifies}
use Rattle.policy_answers.specs.Types.{ListAnswer, Signed}
use Rattle.policy_answers.specs.declared.ElementBody.{ElementBody}
use Rattle.policy_answers.specs.declared.ElementBody.TheVariants as bodies
use Rattle.policy_grammar.specs.Grammar.{All, Element, element_bytes, ValidElement, Signing, PolicyList, list_bytes, ValidList}
use Rattle.policy_grammar.specs.Grammar as Grammar
use Rattle.policy_answers.specs.Answers.{list_shown}
use Rattle.policy_answers.specs.Seen.{ListPart}
use Rattle.decision.specs.declared.Judgement.{Judgement}
use Rattle.decision.specs.declared.Judgement.TheVariants.{No, Yes, IfStmNamed}
use Rattle.rules.specs.Tests.{every, any}
use Rattle.decision.specs.Lists.{Criteria, without_last, judged, names, is_stm}

-- what is measured for a list that is seen
abbrev pub measured_in : ListPart → Signing → List ℕ
measured_in p Grammar.unsigned = p.whole
measured_in p (Grammar.signed g) = g.key

abbrev pub measured_seen : Option ListPart → List ℕ
measured_seen none = []
measured_seen (some p) = measured_in p p.signing

-- a list that is answered has, if it is signed, a counter that is at least a number; and a list that is seen has then a signature that verifies
abbrev pub reached_seen : ℕ → Signed → Bool
reached_seen least None = true
reached_seen least (Some g) = leb least g.counter

abbrev pub verified_in : ListPart → Signing → Bool
verified_in p Grammar.unsigned = true
verified_in p (Grammar.signed g) = verifies g.key g.signature (without_last (length g.signature) p.whole)

abbrev pub verified_seen : Option ListPart → Bool
verified_seen none = false
verified_seen (some p) = verified_in p p.signing

-- an element is of a type that is judged
abbrev pub judged_body : ElementBody → Bool
judged_body (bodies.Launch m v a n) = true
judged_body (bodies.Stm a n) = true
judged_body bodies.Custom = true
judged_body (bodies.Unjudged type) = false

abbrev pub is_stm_body : ElementBody → Bool
is_stm_body (bodies.Launch m v a n) = false
is_stm_body (bodies.Stm a n) = true
is_stm_body bodies.Custom = false
is_stm_body (bodies.Unjudged type) = false

-- a test of an element that is seen
abbrev pub test_seen : (Element → Bool) → Option Element → Bool
test_seen test none = false
test_seen test (some e) = test e

-- what the elements of a list say: that it does not permit, that it does, or that it does where an STM element names the image
abbrev pub judgement_by : Bool → Bool → Judgement
judgement_by found stm = cond found (cond stm IfStmNamed Yes) No

abbrev pub judgement_of : Criteria → List Element → Judgement
judgement_of k es = judgement_by (every judged es && any (names k) es) (any is_stm es)

-- a count of digests is a number of 16 bits
abbrev pub Counted : ElementBody → Type 0
Counted (bodies.Launch m v a n) = n < 2 ^ 16
Counted (bodies.Stm a n) = n < 2 ^ 16
Counted bodies.Custom = Unit
Counted (bodies.Unjudged type) = Unit

-- elements fill a string from an offset on
pub record ElementsStand (t : List ℕ) (at : ℕ) (es : List Element) : Type 0 where
  pub valid : All ValidElement es
  pub stand : drop at t ≡ flat_map element_bytes es

-- an answer is that for a list of a file
pub record ListStands (s : List ℕ) (answer : ListAnswer) (l : PolicyList) : Type 0 where
  pub at : ℕ
  pub others : List PolicyList
  pub valid : All ValidList (l ∷ others)
  pub stand : drop at s ≡ flat_map list_bytes (l ∷ others)
  pub shown : answer ≡ list_shown at (some l)
