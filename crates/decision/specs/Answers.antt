-- What the functions of the crate answer.
use Rattle.std.specs.Prelude.{ℕ, cond, List, [], ◌∷◌, eqb, ⊤, Option, Some, None, Result, Ok, Err}
use Rattle.rules.specs.Rules.{Rule, rule, first_failing}
use Rattle.policy_grammar.specs.Decode.{fault_place}
use Rattle.policy_record.specs.Record.{revocation_counter}
use Rattle.decision.specs.declared.LaunchCriteria.{LaunchCriteria}
use Rattle.rules.specs.declared.refusal.Refusal.{Refusal}
use Rattle.rules.specs.Refusal.{number, place}
use Rattle.answer.specs.Answer.{no_list}
use Rattle.decision.specs.Lists.{Criteria, of_grammar, hash_matches}

-- what a list is judged by: the digest of the pages, AcmVersion, the STM image, and the counters of the policy record
abbrev pub criteria_by : List ℕ → ℕ → List ℕ → List ℕ → Criteria
criteria_by digest acm_version stm r = record { digest = digest; acm_version = acm_version; stm = stm; counter = revocation_counter r }

abbrev pub criteria_of : LaunchCriteria → Criteria
criteria_of k = criteria_by k.digest k.acm_version k.stm.now k.policy_record.now

-- rules 27 and 28
abbrev pub file_rules : List ℕ → List ℕ → List Rule
file_rules file r = rule 27 (of_grammar file) ∷ rule 28 (hash_matches file r) ∷ []

-- "27 must carry the offset of the first field, in file order, whose rule fails or that does not fit"; "the place, 0 for all other numbers". It is 0 too for a
-- file of a size that is not read, of which 27 is not asked
abbrev pub place_for : List ℕ → ℕ → ℕ
place_for file n = cond (eqb n 27) (fault_place file) 0

-- the number of the first of them that fails, and its place
pub record FileFault : Type 0 where
  pub number : ℕ
  pub place : ℕ

abbrev pub file_fault_of : List ℕ → List ℕ → FileFault
file_fault_of file r = record { number = first_failing (file_rules file r); place = place_for file (first_failing (file_rules file r)) }

-- the number and the place of a refusal, 0 where there is none
abbrev pub fault_shown : Result ⊤ Refusal → FileFault
fault_shown (Ok u) = record { number = 0; place = 0 }
fault_shown (Err r) = record { number = number r; place = place r }

-- a list by its number, none for the number that says that there is none
abbrev pub number_if : ℕ → Option ℕ
number_if n = cond (eqb n no_list) None (Some n)
