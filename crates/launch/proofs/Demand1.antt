-- Demand 1: `demand1`. The number is that of the first rule that fails, and of the first that is broken, and with any number but 0 the answer is a
-- refusal that writes nothing.
use Prim.Native.Nat.{ℕ, ◌≤◌, ◌<◌}
use mathlib.Core.Path.{◌≡◌, refl, sym, ◌∙◌, ap}
use mathlib.Core.Logic.{◌↔◌, ◌≢◌}
use mathlib.Core.List.{List}
use native.Mathlib.Omega.{arith}
use borrow.Author.Tests.{ne_eqb}
use Rattle.field.specs.Number.{Bytes}
use Rattle.rules.specs.Rules.{first_failing, FirstFails}
use Rattle.rules.specs.Meaning.{FirstBroken}
use Rattle.rules.proofs.Rules.{first_exactly, number_most}
use Rattle.rules.proofs.Answers.{for_zero, for_other, number_of_lem}
use Rattle.mle.specs.Image.{page_list}
use Rattle.answer.specs.declared.Answer.{Answer}
use Rattle.policy_grammar.specs.Decode.{fault_place}
use Rattle.policy_grammar.specs.Fault.{FirstFaultIn}
use Rattle.decision.specs.Answers.{place_for}
use Rattle.decision.proofs.Readings.{first_fault}
use Rattle.launch.specs.Rules.{Input, image, found, rules}
use Rattle.launch.specs.Answer.{permitted, refused_at, answer_of, places_of}
use Rattle.launch.specs.Meaning.{file, meanings}
use Rattle.launch.specs.Demand1.{Refusal, Demand1}
use Rattle.launch.proofs.Order.{all_group}
use Rattle.launch.proofs.Meaning.{first_broken}
use Rattle.launch.proofs.Last.{not_of_grammar_lem}

module _ (i : Input) where
  abbrev number : ℕ
  number = first_failing (rules i)

  abbrev refusing : ℕ → Answer
  refusing = refused_at i.window (found i)

  -- the answer by its number
  pub answer_refused : number ≢ 0 → answer_of i ≡ refusing number
  unfolding answer_of
  answer_refused h = for_other refusing (permitted i) number h

  pub answer_permitted : number ≡ 0 → answer_of i ≡ permitted i
  unfolding answer_of
  answer_permitted e = for_zero refusing (permitted i) number e

  pub places_refused : number ≢ 0 → (places : List ℕ) → places_of i places ≡ places
  unfolding places_of
  places_refused h places = for_other (λ (n : ℕ). places) (page_list i.window (image i) places) number h

  pub places_permitted : number ≡ 0 → (places : List ℕ) → places_of i places ≡ page_list i.window (image i) places
  unfolding places_of
  places_permitted e places = for_zero (λ (n : ℕ). places) (page_list i.window (image i) places) number e

  pub number_is : (answer_of i).number ≡ number
  unfolding answer_of
  number_is = number_of_lem refusing (permitted i) (λ (a : Answer). a.number) refl (λ n. refl) number

  one : (n : ℕ) → 0 < n → ((answer_of i).number ≡ n) ↔ FirstFails (rules i) n
  one n z =
      let f = first_exactly (rules i) n z in
      (λ e. f.0 (sym number_is ∙ e), λ h. number_is ∙ f.1 h)

  meant : Bytes i.window → (n : ℕ) → 0 < n → ((answer_of i).number ≡ n) ↔ FirstBroken (meanings i) n
  meant b n z =
      let f = first_broken i b n z in
      (λ e. f.0 (sym number_is ∙ e), λ h. number_is ∙ f.1 h)

  most : (answer_of i).number ≤ 29
  most = rw number_is (number_most 1 29 (rules i) (all_group i).numbers)

  -- on 27 the place is that of the first fault in the policy file
  fault : (answer_of i).number ≡ 27 → FirstFaultIn (file i) (answer_of i).place
  fault e =
      let n : number ≡ 27 = sym number_is ∙ e in
      let u = not_of_grammar_lem i n in
      let p : (answer_of i).place ≡ fault_place (file i) =
      ap (λ (a : Answer). a.place) (answer_refused (λ z. omega (arith, n))) ∙ ap (place_for (file i)) n in
      rw p (first_fault (file i) u.least u.most u.refused)

  refusal : (places : List ℕ) → (answer_of i).number ≢ 0 → Refusal i places
  refusal places h =
      let r = answer_refused (λ e. h (number_is ∙ e)) in
      record {
        named = (one (answer_of i).number (omega arith)).0 refl;
        pages = ap (λ (a : Answer). a.pages) r;
        list = ap (λ (a : Answer). a.list) r;
        fault = fault;
        place = λ n. ap (λ (a : Answer). a.place) r ∙ rw (ne_eqb number 27 (λ e. n (number_is ∙ e)));
        digest = ap (λ (a : Answer). a.digest) r;
        kept = places_refused (λ e. h (number_is ∙ e)) places;
      }

pub demand1 : Demand1
demand1 i places = record { refusal = refusal i places; one = one i; meant = meant i; most = most i; order = (all_group i).order }
