-- What the contracts of the stages say: the answer by the rules that are left to try, with what the stages before have found.
use Rattle.std.specs.Prelude.{ℕ, List, [], ◌∷◌, replicate, Option, Some, None, Result, Ok, Err}
use Rattle.rules.specs.Rules.{Rule, rule, answer_by}
use Rattle.rules.specs.Refusal.{number, place}
use Rattle.answer.specs.declared.Answer.{Answer}
use Rattle.answer.specs.Answer.{refused, no_list}
use Rattle.heap.specs.declared.OsSinitData.{OsSinitData}
use Rattle.sinit.specs.declared.ModuleData.{ModuleData}
use Rattle.pages.specs.Memory.{Memory}
use Rattle.mle.specs.declared.Image.{Image}
use Rattle.mle.specs.Image.{image_digest}
use Rattle.decision.specs.Lists.{some_permits, lowest_permitting}
use Rattle.launch.specs.declared.Found.{Found}
use Rattle.launch.specs.declared.Lent.{Lent}
use Rattle.launch.specs.declared.Permission.{Permission}
use Rattle.launch.specs.declared.Refused.{Refused}
use Rattle.launch.specs.Rules.{Input, input_of, image_rules, page_rules, image_found, found_of, found, find_rules, policy_file, criteria, list_rules, decide_rules, rules}
use Rattle.launch.specs.Answer.{list_for, refused_at, shown}

-- the input of a check, of what is lent and a page list of so many places
abbrev pub input : Lent → ℕ → Input
input l n = input_of l.window.now l.heap.now l.sinit.now l.policy_record.now l.stm.now l.platform n

-- WHAT THE LAUNCH FINDS

-- by rules 21 and 22, 12 to 22, 1 to 22
unfoldable pub image_stage : List ℕ → OsSinitData → ModuleData → Image → Result Found ℕ
image_stage window o m image = answer_by Err (Ok (found_of image o m)) (image_rules window image o m)

unfoldable pub page_stage : List ℕ → OsSinitData → ModuleData → Memory → ℕ → Result Found ℕ
page_stage window o m memory places =
    answer_by Err (Ok (found_of (image_found window memory o) o m)) (page_rules window o m memory places)

unfoldable pub find_stage : Input → Result Found ℕ
find_stage i = answer_by Err (Ok (found i)) (find_rules i)

-- WHAT THE POLICY DECIDES

-- the answer, where the pages are found, none on a refusal, and what is shown of the digest of the pages
pub record Outcome : Type 0 where
  pub answer : Answer
  pub image : Image
  pub measurement : List ℕ

-- no pages
abbrev pub no_image : Image
no_image = record { window = 0; tables = 0; first = 0; count = 0 }

abbrev pub refusal_showing : List ℕ → ℕ → ℕ → Outcome
refusal_showing measurement n p = record { answer = refused n p; image = no_image; measurement = measurement }

-- by a rule that is tried before the image is hashed
abbrev pub early_refusal : ℕ → ℕ → Outcome
early_refusal n p = refusal_showing (replicate 32 0) n p

abbrev pub refusal : List ℕ → Found → ℕ → Outcome
refusal window f n = record { answer = refused_at window f n; image = no_image; measurement = shown (image_digest window f.image) n }

abbrev pub permission_with : Found → ℕ → List ℕ → Outcome
permission_with f list digest =
    record {
      answer = record { number = 0; pages = f.image.count; list = list; place = 0; digest = digest };
      image = f.image;
      measurement = digest;
    }

-- what is decided, as an outcome: a list that is none has the number that says so
abbrev pub list_number : Option ℕ → ℕ
list_number None = no_list
list_number (Some i) = i

abbrev pub permitted_shown : Permission → Outcome
permitted_shown p =
    record {
      answer = record { number = 0; pages = p.image.count; list = list_number p.list; place = 0; digest = p.digest };
      image = p.image;
      measurement = p.digest;
    }

abbrev pub outcome_shown : Result Permission Refused → Outcome
outcome_shown (Ok p) = permitted_shown p
outcome_shown (Err r) = refusal_showing r.measurement (number r.refusal) (place r.refusal)

abbrev pub permission : List ℕ → Found → ℕ → Outcome
permission window f list = permission_with f list (image_digest window f.image)

-- by rules, with the list that a permission names
abbrev pub outcome_by : List ℕ → Found → ℕ → List Rule → Outcome
outcome_by window f list rs = answer_by (refusal window f) (permission window f list) rs

-- by rule 29 for a file, 26 to 29, 23 to 29
unfoldable pub file_stage : List ℕ → List ℕ → List ℕ → List ℕ → Found → Outcome
file_stage window file policy_record stm f =
    outcome_by window f (lowest_permitting file (criteria window policy_record stm f)) (rule 29 (some_permits file (criteria window policy_record stm f)) ∷ [])

unfoldable pub list_stage : List ℕ → List ℕ → List ℕ → Found → Outcome
list_stage window policy_record stm f =
    outcome_by window f (lowest_permitting (policy_file window f) (criteria window policy_record stm f)) (list_rules window policy_record stm f)

unfoldable pub decide_stage : List ℕ → List ℕ → List ℕ → Found → Outcome
decide_stage window policy_record stm f = outcome_by window f (list_for window policy_record stm f) (decide_rules window policy_record stm f)

-- BOTH IN TURN

unfoldable pub outcome_of : Input → Outcome
outcome_of i = outcome_by i.window (found i) (list_for i.window i.policy_record i.stm (found i)) (rules i)
