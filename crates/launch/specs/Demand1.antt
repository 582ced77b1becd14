-- Demand 1, as one statement: `Demand1`, which proofs/Demand1.antt proves as `demand1`. That the check ends and reads nothing but what it was
-- lent is what the prover shows of every function; the contract of `check` says that it answers `answer_of` and leaves the page list `places_of`.
use Rattle.std.specs.Prelude.{ℕ, ◌≤◌, ◌<◌, ◌≡◌, ◌↔◌, ◌≢◌, ◌⊎◌, List, [], ◌∷◌, replicate}
use Rattle.field.specs.Number.{Bytes}
use Rattle.rules.specs.Rules.{Rule, Every, FirstFails}
use Rattle.rules.specs.Meaning.{FirstBroken}
use Rattle.policy_grammar.specs.Fault.{FirstFaultIn}
use Rattle.answer.specs.Answer.{no_list}
use Rattle.launch.specs.Rules.{Input, rules}
use Rattle.launch.specs.Answer.{answer_of, places_of}
use Rattle.launch.specs.Meaning.{file, meanings}

-- a refusal: the number is that of a rule that fails while every rule tried before it holds; no pages, list 255, on 27 the place of the first fault in the
-- policy file, a digest of zeros, and every place of the page list as it was
pub record Refusal (i : Input) (places : List ℕ) : Type 0 where
  pub named : FirstFails (rules i) (answer_of i).number
  pub pages : (answer_of i).pages ≡ 0
  pub list : (answer_of i).list ≡ no_list
  -- "27 must carry the offset of the first field, in file order, whose rule fails or that does not fit"; "the place, 0 for all other numbers"
  pub fault : (answer_of i).number ≡ 27 → FirstFaultIn (file i) (answer_of i).place
  pub place : (answer_of i).number ≢ 27 → (answer_of i).place ≡ 0
  pub digest : (answer_of i).digest ≡ replicate 32 0
  pub kept : places_of i places ≡ places

-- "Lower numbers come first, except 14 to 20, which follow the walk."
abbrev pub OfWalk : Rule → Type 0
OfWalk r = (14 ≤ r.number) × (r.number ≤ 20)

abbrev pub MayPrecede : Rule → Rule → Type 0
MayPrecede r s = (r.number ≤ s.number) ⊎ (OfWalk r × OfWalk s)

-- each rule may precede all that come after it
abbrev pub InOrder : List Rule → Type 0
InOrder [] = Unit
InOrder (r ∷ rs) = Every (MayPrecede r) rs × InOrder rs

-- every number but 0 is a refusal, and it is the one that the order of the rules names: that of the first whose test fails and, for a window that is
-- a string of bytes, of the first that says what is not so; no number is over 29
pub record OneNumber (i : Input) (places : List ℕ) : Type 0 where
  pub refusal : (answer_of i).number ≢ 0 → Refusal i places
  pub one : (n : ℕ) → 0 < n → ((answer_of i).number ≡ n) ↔ FirstFails (rules i) n
  pub meant : Bytes i.window → (n : ℕ) → 0 < n → ((answer_of i).number ≡ n) ↔ FirstBroken (meanings i) n
  pub most : (answer_of i).number ≤ 29
  pub order : InOrder (rules i)

abbrev pub Demand1 : Type 0
Demand1 = (i : Input) (places : List ℕ) → OneNumber i places
