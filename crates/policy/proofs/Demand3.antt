-- Demand 3: `demand3`. The reading is that with which the reader accepts the string; the grammar makes the string from it alone, and each answer shows its part.
use Prim.Native.Nat.{ℕ, ◌+◌}
use mathlib.Core.Path.{◌≡◌, refl, sym, subst}
use mathlib.Core.Bool.{Bool, true, false, cond}
use mathlib.Core.List.{List}
use mathlib.Core.Option.{Option, some, none, map}
use lib.ListN.{get_elem?}
use Rattle.field.specs.Number.{Bytes}
use Rattle.policy.specs.declared.Answers.{Answers}
use Rattle.std.specs.Prelude.{Err}
use Rattle.policy_answers.specs.declared.FileFault.TheVariants.{WrongSize, NotOfGrammar}
use Rattle.policy_grammar.specs.Grammar.{body_bytes, list_bytes, Element, PolicyList, Reading, Makes}
use Rattle.policy_grammar.specs.Decode.{accepted, fault_place}
use Rattle.policy_grammar.specs.Sizes.{sized}
use Rattle.policy_answers.specs.Answers.{file_answer, element_in, place, list_answer, key_answer, signature_answer, element_answer}
use Rattle.policy_answers.specs.Seen.{number_of, count_of, place_of, seen_element, seen_body}
use Rattle.policy.specs.Demand3.{Demand3, Answered, Shows, answers_of}
use Rattle.policy_reader.proofs.Places.{accepted_sound, list_at, element_at_lem}
use Rattle.policy_reader.proofs.Readings.{is_reading, is_place, fault_outside}
use Rattle.policy_reader.proofs.Seen.{list_seen, key_seen, signature_seen, element_seen, body_seen}

-- a refused string has no number but 26 and 27, no lists, and no place but on 27
module _ (s : List ℕ) (p : ℕ) (outside : sized s ≡ false → p ≡ 0) where
  refused_number : (x : Bool) → sized s ≡ x
      → (number_of (Err (cond x (NotOfGrammar p) WrongSize)) ≡ cond x 27 26) × (count_of (Err (cond x (NotOfGrammar p) WrongSize)) ≡ 0) × (place_of (Err (cond x (NotOfGrammar p) WrongSize)) ≡ p)
  refused_number true e = (refl, refl, refl)
  refused_number false e = (refl, refl, sym (outside e))

  shows_none : (i j : ℕ) → Shows s none p i j (answers_of s none p i j)
  shows_none i j =
      let (n, c, at) = refused_number (sized s) refl in
      record { number = n; count = c; fault = at; list = refl; key = refl; signature = refl; element = refl; body = refl; places = refl }

-- the parts of a list that is there or not
module _ (r : Reading) (s : List ℕ) (m : Makes r s) (p : ℕ) (unplaced : p ≡ 0) (i j : ℕ) where
  abbrev at : ℕ
  at = place list_bytes 36 r.lists i

  element_of_lem : (l : PolicyList) → get_elem? r.lists i ≡ some l → (o : Option Element) → get_elem? l.elements j ≡ o
      → (seen_element s (element_in (at + 8) l.elements j) ≡ o) × (seen_body s (element_in (at + 8) l.elements j) ≡ map (λ (e : Element). body_bytes e.body) o)
  element_of_lem l q none h = (rw h, rw h)
  element_of_lem l q (some e) h =
      let here = element_at_lem s at l (list_at r s m i l q) j e h in
      (rw h (element_seen s _ e here), rw h (body_seen s _ e here))

  shows_some : (o : Option PolicyList) → get_elem? r.lists i ≡ o → Shows s (some r) p i j (answers_of s (some r) p i j)
  shows_some none q =
      record { number = refl; count = sym m.valid.counted; fault = sym unplaced; list = rw q; key = rw q; signature = rw q; element = rw q; body = rw q; places = refl }
  shows_some (some l) q =
      let here = list_at r s m i l q in
      record {
        number = refl;
        count = sym m.valid.counted;
        fault = sym unplaced;
        list = rw q (list_seen s at l here);
        key = rw q (key_seen s at l here);
        signature = rw q (signature_seen s at l here);
        element = rw q (element_of_lem l q (get_elem? l.elements j) refl).0;
        body = rw q (element_of_lem l q (get_elem? l.elements j) refl).1;
        places = refl;
      }

shows : (s : List ℕ) → Bytes s → (i j : ℕ) → Shows s (accepted s) (fault_place s) i j (answers_of s (accepted s) (fault_place s) i j)
shows s b i j = go (accepted s) refl
  where
    go : (o : Option Reading) → accepted s ≡ o → Shows s (accepted s) (fault_place s) i j (answers_of s (accepted s) (fault_place s) i j)
    go none q = rw q (shows_none s (fault_place s) (fault_outside s) i j)
    go (some r) q = rw q (shows_some r s (accepted_sound s r b q).0 (fault_place s) ((is_place s).accepted r q) i j (get_elem? r.lists i) refl)

pub demand3 : Demand3
demand3 s b = (accepted s, fault_place s, is_reading s b, is_place s, shows s b)

-- the answers of one call, each as its own contract has it
pub answered : (s : List ℕ) → Bytes s → (i j : ℕ) (a : Answers) → a.file ≡ file_answer s → a.list ≡ list_answer (accepted s) i → a.key ≡ key_answer (accepted s) i
    → a.signature ≡ signature_answer (accepted s) i → a.element ≡ element_answer (accepted s) i j → Answered s i j a
answered s b i j a e₁ e₂ e₃ e₄ e₅ =
    let (o, p, is, at, q) = demand3 s b in
    let e : answers_of s (accepted s) (fault_place s) i j ≡ a = λ k. record { file = sym e₁ k; list = sym e₂ k; key = sym e₃ k; signature = sym e₄ k; element = sym e₅ k } in
    (o, p, is, at, subst (Shows s o p i j) e (q i j))
