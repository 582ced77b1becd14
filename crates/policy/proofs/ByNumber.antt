-- What is answered by number: of a refused string nothing, and of an accepted one the parts of its reading.
use Prim.Native.Nat.{ℕ, ◌+◌, ◌≤◌}
use native.Mathlib.Omega.{arith}
use mathlib.Core.Path.{◌≡◌, refl, ap, ◌∙◌}
use mathlib.Core.List.{List, flat_map}
use mathlib.Core.Option.{Option, some, none}
use lib.ListN.{length, get_or, take, drop, get_elem?}
use lib.Seq.{length-take-le}
use mir.Val.{Fits}
use mir.Syntax.{w8}
use Rattle.policy_grammar.specs.Grammar.{All, Element, element_bytes, ValidElement, Signing, PolicyList, list_bytes, ValidList, Reading}
use Rattle.policy_grammar.specs.Grammar as Grammar
use Rattle.policy_grammar.specs.Decode.{accepted, fault_place}
use Rattle.policy_answers.specs.Answers.{file_shown, file_answer, list_shown, element_shown, signing_shown, elements_of, lists_in, place, list_answer, element_in, element_answer}
use Rattle.std.specs.Prelude.{Some, None}
use Rattle.std.specs.Result.{result_ok}
use Rattle.policy_answers.specs.declared.Part.{Part}
use Rattle.policy_answers.specs.Types.{FileAnswer, ListAnswer, PartAnswer}
use Rattle.policy_grammar.specs.Parser.{value_of}
use Rattle.policy_grammar.specs.Decode as Decode
use Rattle.policy.specs.Inner.{walked}
use Rattle.policy.proofs.Walked.{list_walked, element_walked}
use Rattle.policy_answers.proofs.Slices.{drop_take}
use Rattle.policy_reader.proofs.Places.{accepted_sound, lists_stand, list_at, elements_part, elements_fit}

-- a list: o is what `ok` gives of the answer for the string
module _ (s : List ℕ) (b : (i : ℕ) → Fits w8 (get_or s i 0)) (f : FileAnswer) (e : f ≡ file_answer s) (i : ℕ) where
  ok_is : (o : Option Reading) → accepted s ≡ o → result_ok f ≡ result_ok (file_shown s o (fault_place s))
  ok_is o q = ap result_ok (e ∙ ap (λ (o : Option Reading). file_shown s o (fault_place s)) q)

  is_accepted_lem : (n : ℕ) → result_ok f ≡ Some n → (r : Reading) × (accepted s ≡ some r)
  is_accepted_lem n h = go (accepted s) refl
    where
      go : (o : Option Reading) → accepted s ≡ o → (r : Reading) × (accepted s ≡ some r)
      go none q = let z = ok_is none q in cc
      go (some r) q = (r, q)

  module _ (n : ℕ) (h : result_ok f ≡ Some n) where
    pub list_numbered : walked (λ s at. list_shown at (value_of (Decode.list (drop at s)))) (λ l. l.size) s 36 i ≡ list_answer (accepted s) i
    list_numbered =
        let (r, q) = is_accepted_lem n h in
        let m = (accepted_sound s r (λ i. (b i).fits) q).0 in
        rw q (list_walked i s 36 r.lists m.valid.lists_valid (lists_stand r s m))

-- an element
pub element_room : (s : List ℕ) (start len : ℕ) → start + len ≤ length s → start ≤ length (take (start + len) s)
element_room s start len h = rw (length-take-le (start + len) s h) (omega arith)

-- the list whose elements stand at an offset
pub record Holds (s : List ℕ) (i start len : ℕ) : Type 0 where
  pub holder : PolicyList
  pub numbered : get_elem? (lists_in (accepted s)) i ≡ some holder
  pub starts : start ≡ place list_bytes 36 (lists_in (accepted s)) i + 8
  pub fit : start + len ≤ length s
  pub part : take len (drop start s) ≡ flat_map element_bytes holder.elements
  pub valid : All ValidElement holder.elements

module _ (s : List ℕ) (b : (i : ℕ) → Fits w8 (get_or s i 0)) (i : ℕ) (l : ListAnswer) (el : l ≡ list_answer (accepted s) i) (p : PartAnswer) (ep : p ≡ elements_of l) where
  p_is : p ≡ elements_of (list_answer (accepted s) i)
  p_is = ep ∙ ap elements_of el

  signed_or_not : (start version n : ℕ) (g : Signing) → elements_of (signing_shown start version n g) ≡ Some (record { start = start + 8; len = n })
  signed_or_not start version n Grammar.unsigned = refl
  signed_or_not start version n (Grammar.signed g) = refl

  module _ (y : Part) (h : p ≡ Some y) where
    pub holds : Holds s i y.start y.len
    holds = go (accepted s) refl
      where
        on : (r : Reading) → accepted s ≡ some r → (o : Option PolicyList) → get_elem? r.lists i ≡ o → Holds s i y.start y.len
        on r e none q = let d : p ≡ None = p_is ∙ rw (e, q) in cc
        on r e (some x) q =
            let at : ℕ = place list_bytes 36 r.lists i in
            let d : p ≡ Some (record { start = at + 8; len = x.elements_size }) = p_is ∙ rw (e, q) (signed_or_not at x.version x.elements_size x.signing) in
            let k : y ≡ record { start = at + 8; len = x.elements_size } = cc in
            let i₁ : y.start ≡ at + 8 = ap (λ (z : Part). z.start) k in
            let i₂ : y.len ≡ x.elements_size = ap (λ (z : Part). z.len) k in
            let w = list_at r s (accepted_sound s r (λ k. (b k).fits) e).0 i x q in
            record {
              holder = x;
              numbered = rw e q;
              starts = rw e i₁;
              fit = omega (arith, elements_fit s at x w);
              part = rw (i₁, i₂) (elements_part s at x w);
              valid = w.obeys.elements_valid;
            }

        go : (o : Option Reading) → accepted s ≡ o → Holds s i y.start y.len
        go none e = let d : p ≡ None = p_is ∙ rw e in cc
        go (some r) e = on r e (get_elem? r.lists i) refl

    pub element_numbered : (j : ℕ) → walked (λ s at. element_shown at (value_of (Decode.element (drop at s)))) (λ x. x.size) (take (y.start + y.len) s) y.start j ≡ element_answer (accepted s) i j
    element_numbered j =
        let w = holds in
        let q = element_walked j (take (y.start + y.len) s) y.start w.holder.elements w.valid (drop_take y.start y.len s (omega (arith, w.fit)) ∙ w.part) in
        rw w.numbered (q ∙ ap (λ (n : ℕ). element_in n w.holder.elements j) w.starts)
