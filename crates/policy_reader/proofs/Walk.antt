-- The laws of walking an accepted string once, for a loop of a caller: `list_at` and `list_size` from offset 36 on, and in a list `element_at` and
-- `element_size` on the string up to the end of its elements. What is left to walk stands from the offset on: `drop at s ≡ flat_map list_bytes ls`.
-- Where it starts, what stands at an offset, the next offset, and the end; each for elements and for lists, the kinds `element` and `list`.
use Prim.Native.Nat.{ℕ, ◌+◌, ◌≤◌, ◌<◌}
use native.Mathlib.Omega.{arith}
use mathlib.Core.Path.{◌≡◌, refl, ap, ◌∙◌}
use mathlib.Core.Bool.{and-eq-true_iff}
use mathlib.Core.List.{List, [], ◌∷◌, flat_map}
use mathlib.Core.Option.{some}
use lib.ListN.{length, take, drop, length-drop}
use borrow.Author.Tests.{leb-true}
use Rattle.field.specs.Number.{Bytes}
use Rattle.policy_grammar.specs.Grammar.{All, Element, element_bytes, ValidElement, PolicyList, list_bytes, ValidList, Reading}
use Rattle.policy_grammar.specs.Parser.{value_of}
use Rattle.policy_grammar.specs.Decode.{accepted}
use Rattle.policy_answers.specs.Answers.{element_shown, list_shown}
use Rattle.policy_answers.specs.Seen.{seen_list, list_part, seen_element}
use Rattle.policy_reader.specs.Offsets.{StandsAt}
use Rattle.policy_reader.proofs.Standing.{Kind, here, next, inside}
use Rattle.policy_reader.proofs.Places.{accepted_sound, lists_stand, elements_part, elements_fit}
use Rattle.policy_answers.proofs.Slices.{drop_take}
use Rattle.policy_reader.proofs.Seen as Seen

-- the lists of an accepted string stand from offset 36 on
pub record Walked (s : List ℕ) (r : Reading) : Type 0 where
  pub long : 36 ≤ length s
  pub valid : All ValidList r.lists
  pub counted : length r.lists ≡ r.list_count
  pub stand : drop 36 s ≡ flat_map list_bytes r.lists

pub walk_start : (s : List ℕ) (r : Reading) → Bytes s → accepted s ≡ some r → Walked s r
walk_start s r b e =
    let (m, z) = accepted_sound s r b e in
    record {
      long = leb-true 36 (length s) ((and-eq-true_iff _ _).0 z).0;
      valid = m.valid.lists_valid;
      counted = m.valid.counted;
      stand = lists_stand r s m;
    }

-- the first of what is left: the answer at its offset, its size, and where the next stands
module _ (κ : Kind) (s : List ℕ) (at : ℕ) (a : κ.Value) (xs : List κ.Value) (v : All κ.Valid (a ∷ xs)) (e : drop at s ≡ flat_map κ.make (a ∷ xs)) where
  pub walk_here : κ.shown at (value_of (κ.parser (drop at s))) ≡ κ.shown at (some a)
  walk_here = ap (κ.shown at) (ap value_of (here κ s at a xs v e))

  pub walk_within : (0 < κ.size (κ.shown at (some a))) × (at + κ.size (κ.shown at (some a)) ≤ length s)
  walk_within = let w = κ.size_is at a v.0 in rw w.0 (w.1, inside κ s at a xs v e)

  pub walk_next : drop (at + κ.size (κ.shown at (some a))) s ≡ flat_map κ.make xs
  walk_next = rw (κ.size_is at a v.0).0 (next κ s at a xs v e)

-- what is seen of the answer for the first list: all its bytes and every field; and its elements stand in the string up to their end
module _ (s : List ℕ) (at : ℕ) (l : PolicyList) (ls : List PolicyList) (v : All ValidList (l ∷ ls)) (e : drop at s ≡ flat_map list_bytes (l ∷ ls)) where
  first : StandsAt list_bytes ValidList s at l
  unfolding flat_map
  first = record { obeys = v.0; rest = flat_map list_bytes ls; stands = e }

  pub list_seen : seen_list s (list_shown at (some l)) ≡ some (list_part l)
  list_seen = Seen.list_seen s at l first

  pub elements_within : at + 8 + l.elements_size ≤ length s
  elements_within = elements_fit s at l first

  pub elements_stand : drop (at + 8) (take (at + 8 + l.elements_size) s) ≡ flat_map element_bytes l.elements
  elements_stand = drop_take (at + 8) l.elements_size s (omega (arith, elements_within)) ∙ elements_part s at l first

-- what is seen of the answer for the first element
pub element_seen : (s : List ℕ) (at : ℕ) (x : Element) (xs : List Element) → All ValidElement (x ∷ xs) → drop at s ≡ flat_map element_bytes (x ∷ xs)
    → seen_element s (element_shown at (some x)) ≡ some x
unfolding flat_map
element_seen s at x xs v e = Seen.element_seen s at x (record { obeys = v.0; rest = flat_map element_bytes xs; stands = e })

-- A LOOP: what is left to walk, of which something is kept; one step; and what holds at the end

pub record Left (κ : Kind) (s : List ℕ) (at : ℕ) (Kept : List κ.Value → Type 0) : Type 0 where
  pub rest : List κ.Value
  pub valid : All κ.Valid rest
  pub stand : drop at s ≡ flat_map κ.make rest
  pub kept : Kept rest

-- the first of what is left, the answer for it, and the next offset
pub record Front (κ : Kind) (s : List ℕ) (at : ℕ) (Kept : List κ.Value → Type 0) (e : κ.Answer) : Type 0 where
  pub first : κ.Value
  pub others : List κ.Value
  pub valid : All κ.Valid (first ∷ others)
  pub stand : drop at s ≡ flat_map κ.make (first ∷ others)
  pub kept : Kept (first ∷ others)
  pub shown : e ≡ κ.shown at (some first)
  pub positive : 0 < κ.size e
  pub within : at + κ.size e ≤ length s
  pub next : drop (at + κ.size e) s ≡ flat_map κ.make others

module _ (κ : Kind) (s : List ℕ) (at : ℕ) (Kept : List κ.Value → Type 0) (left : Left κ s at Kept) where
  pub front : (e : κ.Answer) → at < length s → e ≡ κ.shown at (value_of (κ.parser (drop at s))) → Front κ s at Kept e
  unfolding flat_map
  front e l q = go left.rest refl
    where
      go : (xs : List κ.Value) → left.rest ≡ xs → Front κ s at Kept e
      go [] r =
          let d : drop at s ≡ [] = left.stand ∙ ap (flat_map κ.make) r in
          absurd (omega (arith, length-drop at s, ap length d))
      go (a ∷ xs) r =
          let v : All κ.Valid (a ∷ xs) = rw r at left.valid in
          let d : drop at s ≡ flat_map κ.make (a ∷ xs) = left.stand ∙ ap (flat_map κ.make) r in
          let is : e ≡ κ.shown at (some a) = q ∙ walk_here κ s at a xs v d in
          let w = walk_within κ s at a xs v d in
          record {
            first = a;
            others = xs;
            valid = v;
            stand = d;
            kept = rw r at left.kept;
            shown = is;
            positive = rw is w.0;
            within = rw is w.1;
            next = rw is (walk_next κ s at a xs v d);
          }

  pub ended : length s ≤ at → Kept []
  ended l = go left.rest refl
    where
      go : (xs : List κ.Value) → left.rest ≡ xs → Kept []
      go [] r = rw r at left.kept
      go (a ∷ xs) r =
          let v : All κ.Valid (a ∷ xs) = rw r at left.valid in
          let d : drop at s ≡ flat_map κ.make (a ∷ xs) = left.stand ∙ ap (flat_map κ.make) r in
          absurd (omega (arith, walk_within κ s at a xs v d))

-- what is left after a step
pub onward : (κ : Kind) (s : List ℕ) (at : ℕ) (Kept Next : List κ.Value → Type 0) (e : κ.Answer) (t : Front κ s at Kept e) (z : ℕ)
    → z ≡ κ.size e → Next t.others → Left κ s (at + z) Next
onward κ s at Kept Next e t z q h = record { rest = t.others; valid = t.valid.1; stand = rw q t.next; kept = h }
