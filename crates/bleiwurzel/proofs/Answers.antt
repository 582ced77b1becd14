-- An answer that is equal to the one that is due, and is given number by number, is the one that is due.
use mathlib.Core.Path.{◌≡◌, ap, ◌∙◌}
use mathlib.Core.List.{List, [], ◌∷◌}
use Prim.Native.Nat.{ℕ}
use Rattle.answer.specs.declared.Answer.{Answer}
use Rattle.std.specs.Prelude.{Result}
use Rattle.rules.specs.Refusal.{number_of}
use Rattle.policy_writer.specs.declared.Written.{Written}
use Rattle.policy_writer.specs.Answers.{length_of, record_of}
use Rattle.bleiwurzel.specs.Scalars.{counts_of, Given}

pub as_given : (r due : Answer) (pages places : List ℕ) {number : ℕ} {counts place digest : List ℕ} → r ≡ due → pages ≡ places
    → number ≡ r.number → counts ≡ counts_of r → place ≡ r.place ∷ [] → digest ≡ r.digest → Given due places number pages counts place digest
as_given r due pages places e f n c p d =
    record {
      the_number = n ∙ ap (λ a. a.number) e;
      the_pages = f;
      the_counts = c ∙ ap counts_of e;
      the_place = p ∙ ap (λ a. a.place ∷ []) e;
      the_digest = d ∙ ap (λ a. a.digest) e;
    }

-- the same of what was written
pub as_written : {r due : Result Written ℕ} {file later : List ℕ} → r ≡ due → later ≡ file
    → (number_of r ≡ number_of due) × ((later ≡ file) × ((length_of r ∷ [] ≡ length_of due ∷ []) × (record_of r ≡ record_of due)))
as_written e f = (ap number_of e, (f, (ap (λ w. length_of w ∷ []) e, ap record_of e)))
