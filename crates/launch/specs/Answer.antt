-- The answer and the page list: the number is that of the first rule that fails, and only where none does are there pages, a list and a digest.
use Rattle.std.specs.Prelude.{ℕ, cond, List, eqb, replicate}
use Rattle.rules.specs.Rules.{answer_by}
use Rattle.answer.specs.declared.Answer.{Answer}
use Rattle.answer.specs.Answer.{no_list, refused}
use Rattle.mle.specs.Image.{image_digest, page_list}
use Rattle.policy_record.specs.Record.{policy_type, LIST}
use Rattle.decision.specs.Lists.{lowest_permitting}
use Rattle.decision.specs.Answers.{place_for}
use Rattle.launch.specs.declared.Found.{Found}
use Rattle.launch.specs.Rules.{Input, policy_file, criteria, image, found, rules}

-- "Under ANY the list is 255." Under LIST it is the lowest that permits
abbrev pub list_for : List ℕ → List ℕ → List ℕ → Found → ℕ
list_for window policy_record stm f =
    cond (eqb (policy_type policy_record) LIST) (lowest_permitting (policy_file window f) (criteria window policy_record stm f)) no_list

abbrev pub permitted : Input → Answer
permitted i =
    record {
      number = 0;
      pages = (image i).count;
      list = list_for i.window i.policy_record i.stm (found i);
      place = 0;
      digest = image_digest i.window (image i);
    }

-- a refusal with a number, and on 27 with the place in the policy file
abbrev pub refused_at : List ℕ → Found → ℕ → Answer
refused_at window f n = refused n (place_for (policy_file window f) n)

-- a refusal with the number of the first rule that fails, the permission where all hold
unfoldable pub answer_of : Input → Answer
answer_of i = answer_by (refused_at i.window (found i)) (permitted i) (rules i)

-- what a refusal shows of the digest of the pages: 29 the digest, since it is the one that no list permits; every other number zeros
abbrev pub shown : List ℕ → ℕ → List ℕ
shown digest n = cond (eqb n 29) digest (replicate 32 0)

-- the digest of the pages where the answer is 0 or 29, else zeros
unfoldable pub measurement_of : Input → List ℕ
measurement_of i = let digest = image_digest i.window (image i) in answer_by (shown digest) digest (rules i)

-- "the page list keeps every place" on a refusal; "A permission writes the N page addresses, in linear order, to the first N places and keeps the rest"
unfoldable pub places_of : Input → List ℕ → List ℕ
places_of i places = answer_by (λ (n : ℕ). places) (page_list i.window (image i) places) (rules i)
