-- The list and the element at an offset: the one that stands there by the grammar, and no other.
use Prim.Native.Nat.{ℕ, ◌<◌}
use native.Mathlib.Omega.{arith}
use mathlib.Core.Path.{◌≡◌, refl, ap, sym, ◌∙◌}
use mathlib.Core.List.{List}
use mathlib.Core.Option.{Option, some, none}
use lib.ListN.{length, get_or, drop, drop_of_length-le}
use mir.Val.{Fits}
use mir.Syntax.{w8}
use Rattle.field.proofs.Laws.{bytes_drop}
use Rattle.policy_grammar.specs.Grammar.{Element, element_bytes, ValidElement, PolicyList, list_bytes, ValidList}
use Rattle.policy_grammar.specs.Parser.{Read, value, fault, value_of}
use Rattle.policy_grammar.specs.Decode as Decode
use Rattle.policy_answers.specs.Answers.{list_shown, element_shown}
use Rattle.policy_answers.specs.Seen.{seen_list, seen_element}
use Rattle.policy_reader.specs.Offsets.{StandsAt, OnlyAt, ListAtExactly, ElementAtExactly}
use Rattle.std.specs.Prelude.{None}
use Rattle.policy_answers.specs.Types.{ListAnswer, ElementAnswer}
use Rattle.policy_reader.proofs.Standing.{Kind, list, element}
use Rattle.policy_reader.proofs.Seen.{list_seen, element_seen}

module _ (s : List ℕ) (at : ℕ) (b : (i : ℕ) → Fits w8 (get_or s i 0)) where
  only_at : (κ : Kind) → OnlyAt κ.make κ.Valid s at (value_of (κ.parser (drop at s)))
  only_at κ = go (κ.parser (drop at s)) refl
    where
      is_read : (a : κ.Value) → StandsAt κ.make κ.Valid s at a → κ.parser (drop at s) ≡ value a (length (κ.make a))
      is_read a h = rw h.stands (κ.complete a h.rest h.obeys)

      go : (g : Read κ.Value) → κ.parser (drop at s) ≡ g → OnlyAt κ.make κ.Valid s at (value_of g)
      go (fault p) e = λ a h. (let q = is_read a h in let z : ◌≡◌ {A = ℕ} 0 1 = cc in omega arith)
      go (value a n) e =
          let (v, l, d) = κ.sound (drop at s) a n (bytes_drop at s (λ i. (b i).fits)) e in
          (record { obeys = v; rest = drop n (drop at s); stands = sym d }, λ c h. (let q = is_read c h in cc))

  list_exactly : (r : ListAnswer) → r ≡ list_shown at (value_of (Decode.list (drop at s))) → ListAtExactly s at r
  list_exactly r e = go (value_of (Decode.list (drop at s))) (only_at list) e
    where
      go : (o : Option PolicyList) → OnlyAt list_bytes ValidList s at o → r ≡ list_shown at o → ListAtExactly s at r
      go none h q = record { list = none; only = h; places = q; seen = ap (seen_list s) q }
      go (some l) h q = record { list = some l; only = h; places = q; seen = ap (seen_list s) q ∙ list_seen s at l h.0 }

  element_exactly : (r : ElementAnswer) → r ≡ element_shown at (value_of (Decode.element (drop at s))) → ElementAtExactly s at r
  element_exactly r e = go (value_of (Decode.element (drop at s))) (only_at element) e
    where
      go : (o : Option Element) → OnlyAt element_bytes ValidElement s at o → r ≡ element_shown at o → ElementAtExactly s at r
      go none h q = record { element = none; only = h; places = q; seen = ap (seen_element s) q }
      go (some x) h q = record { element = some x; only = h; places = q; seen = ap (seen_element s) q ∙ element_seen s at x h.0 }

  -- past the string there is none, and elsewhere it is the one at the front of what is left
  none_past : (κ : Kind) → length s < at → value_of (κ.parser (drop at s)) ≡ none
  none_past κ h = rw (drop_of_length-le s {i = at} (omega arith)) κ.ends

  -- an answer that none is there
  pub list_past : length s < at → (r : ListAnswer) → r ≡ None → (r ≡ list_shown at (value_of (Decode.list (drop at s)))) × ListAtExactly s at r
  list_past h r q = let e = q ∙ ap (list_shown at) (sym (none_past list h)) in (e, list_exactly r e)

  pub element_past : length s < at → (r : ElementAnswer) → r ≡ None → (r ≡ element_shown at (value_of (Decode.element (drop at s)))) × ElementAtExactly s at r
  element_past h r q = let e = q ∙ ap (element_shown at) (sym (none_past element h)) in (e, element_exactly r e)

  -- an answer for the front of what is left
  module _ (t : List ℕ) (i : t ≡ drop at s) where
    pub list_front : (r : ListAnswer) → r ≡ list_shown at (value_of (Decode.list t)) → (r ≡ list_shown at (value_of (Decode.list (drop at s)))) × ListAtExactly s at r
    list_front r q = let e = rw i at q in (e, list_exactly r e)

    pub element_front : (r : ElementAnswer) → r ≡ element_shown at (value_of (Decode.element t)) → (r ≡ element_shown at (value_of (Decode.element (drop at s)))) × ElementAtExactly s at r
    element_front r q = let e = rw i at q in (e, element_exactly r e)
