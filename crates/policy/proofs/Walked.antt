-- The walk to the one with a number, over what stands one after the other in a string: it answers for the value that has the number.
use Prim.Native.Nat.{ℕ, zero, suc, ◌+◌, ◌<◌}
use native.Mathlib.Omega.{arith}
use mathlib.Core.Path.{◌≡◌, refl, ap, sym, ◌∙◌}
use mathlib.Core.List.{List, [], ◌∷◌, flat_map}
use mathlib.Core.Option.{some, none}
use mathlib.Core.Option as Maybe
use lib.ListN.{length, take, drop, get_elem?, length-append}
use Rattle.std.specs.Prelude.{Option, Some, None}
use Rattle.policy_grammar.specs.Grammar.{All, Element, element_bytes, ValidElement, PolicyList, list_bytes, ValidList}
use Rattle.policy_grammar.specs.Parser.{value_of}
use Rattle.policy_grammar.specs.Decode as Decode
use Rattle.policy_answers.specs.declared.ListAt.{ListAt}
use Rattle.policy_answers.specs.declared.ElementAt.{ElementAt}
use Rattle.policy_answers.specs.Types.{ListAnswer, ElementAnswer}
use Rattle.policy_answers.specs.Answers.{list_shown, list_size, element_shown, element_size, place, list_in, element_in}
use Rattle.policy_reader.proofs.Standing.{Kind, here, next, at_end}
use Rattle.policy_reader.proofs.Standing as kinds
use Rattle.policy.specs.Inner.{walked}

-- one step
pub walked_on : {T : Type 0} (read : List ℕ → ℕ → Option T) (size : T → ℕ) (s : List ℕ) (at n m : ℕ) → n ≡ suc m → (x : T) → read s at ≡ Some x → (z : ℕ) → z ≡ size x
    → walked read size s at n ≡ walked read size s (at + z) m
walked_on read size s at n m i x e z q = rw (i, e, q)

module _ (κ : Kind) {T : Type 0} (shown : ℕ → Maybe.Option κ.Value → Option T) (size : T → ℕ) (nothing : (at : ℕ) → shown at none ≡ None)
    (one : (at : ℕ) (a : κ.Value) → κ.Valid a → (x : T) × (shown at (some a) ≡ Some x) × (size x ≡ length (κ.make a))) where
  walked_is : (k : ℕ) (s : List ℕ) (at : ℕ) (xs : List κ.Value) → All κ.Valid xs → drop at s ≡ flat_map κ.make xs
      → walked (λ s at. shown at (value_of (κ.parser (drop at s)))) size s at k ≡ shown (place κ.make at xs k) (get_elem? xs k)
  unfolding flat_map
  walked_is zero s at [] v e = rw (at_end κ s at e, nothing) (sym (nothing (at + 0)))
  walked_is zero s at (a ∷ xs) v e =
      let i : at + 0 ≡ at = omega arith in
      rw (here κ s at a xs v e, i)
  walked_is (suc k) s at [] v e = rw (at_end κ s at e, nothing) (sym (nothing (at + 0)))
  walked_is (suc k) s at (a ∷ xs) v e =
      let (x, i, l) = one at a v.0 in
      let p : at + length (κ.make a) + length (flat_map κ.make (take k xs)) ≡ place κ.make at (a ∷ xs) (suc k) = rw length-append (omega arith) in
      rw (here κ s at a xs v e, i, l) (walked_is k s (at + length (κ.make a)) xs v.1 (next κ s at a xs v e) ∙ ap (λ (n : ℕ). shown n (get_elem? xs k)) p)

-- lists
list_there : (o : ListAnswer) (n : ℕ) → (list_size o ≡ n) × (0 < n) → (l : ListAt) × (o ≡ Some l) × (l.size ≡ n)
list_there None n h = absurd (omega (arith, h.0, h.1))
list_there (Some l) n h = (l, refl, h.0)

pub list_walked : (k : ℕ) (s : List ℕ) (at : ℕ) (ls : List PolicyList) → All ValidList ls → drop at s ≡ flat_map list_bytes ls
    → walked (λ s at. list_shown at (value_of (Decode.list (drop at s)))) (λ l. l.size) s at k ≡ list_in at ls k
list_walked k s at ls v e = walked_is kinds.list list_shown (λ l. l.size) (λ at. refl) (λ at l w. list_there (list_shown at (some l)) _ (kinds.list.size_is at l w)) k s at ls v e

-- elements
element_there : (o : ElementAnswer) (n : ℕ) → (element_size o ≡ n) × (0 < n) → (x : ElementAt) × (o ≡ Some x) × (x.size ≡ n)
element_there None n h = absurd (omega (arith, h.0, h.1))
element_there (Some x) n h = (x, refl, h.0)

pub element_walked : (k : ℕ) (s : List ℕ) (at : ℕ) (es : List Element) → All ValidElement es → drop at s ≡ flat_map element_bytes es
    → walked (λ s at. element_shown at (value_of (Decode.element (drop at s)))) (λ x. x.size) s at k ≡ element_in at es k
element_walked k s at es v e =
    walked_is kinds.element element_shown (λ x. x.size) (λ at. refl) (λ at x w. element_there (element_shown at (some x)) _ (kinds.element.size_is at x w)) k s at es v e
