-- The decoder of descriptions and their definition agree: `described_exactly`. What is decoded is described, since every part of it stands where it was
-- found and obeys the grammar, with nothing after; and what is described is decoded, since its parts are found one behind the other.
use Prim.Native.Nat.{ℕ, ◌+◌, ◌≤◌}
use native.Mathlib.Omega.{arith}
use mathlib.Core.Path.{◌≡◌, refl, ap, sym, ◌∙◌}
use mathlib.Core.Bool.{Bool, true, false, cond, ◌&&◌}
use mathlib.Core.List.{List, [], ◌∷◌, ◌++◌, flat_map, append-nil}
use mathlib.Core.Option.{Option, some, none}
use lib.ListN.{length, drop, drop_of_length-le}
use lib.Dec.{leb}
use borrow.Author.Tests.{le-leb, leb-true}
use Rattle.field.specs.Number.{Bytes}
use Rattle.policy_grammar.specs.Grammar.{All, PolicyList, ValidList, Reading, ValidReading, most_lists}
use Rattle.policy_writer.specs.Descriptions.{list_numbers, list_bodies, Describable, Describe}
use Rattle.policy_writer.specs.Decode.{and_then, row, list, reading_with, whole_reading, described}
use Rattle.policy_writer.specs.Writing.{Words, DescribedExactly}
use Rattle.policy_writer.proofs.Fronts.{row_counted, times_sound, list_sound}
use Rattle.policy_writer.proofs.Valid.{words_drop, both, each, GoodList, row_obeys, row_found, list_obeys, list_found}

-- what a reading that is decoded is made of
record FileShape (ns bs : List ℕ) (r : Reading) : Type 0 where
  pub count : ℕ
  pub others : List ℕ
  pub lists : List PolicyList
  pub numbers : ns ≡ count ∷ others
  pub is : r ≡ reading_with lists
  pub one_or_more : 1 ≤ count
  pub eight_or_fewer : count ≤ most_lists
  pub row_is : row list count others bs ≡ some lists
  pub no_numbers : length others ≤ length (flat_map list_numbers lists)
  pub no_bodies : length bs ≤ length (flat_map list_bodies lists)

file_shape : (ns bs : List ℕ) (r : Reading) → described ns bs ≡ some r → FileShape ns bs r
unfolding described
file_shape [] bs r q = let z : ◌≡◌ {A = ℕ} 0 1 = cc in absurd (omega arith)
file_shape (n ∷ ns) bs r q = go (leb 1 n) (leb n most_lists) (row list n ns bs) refl refl refl (rw (le-leb 1 (length (n ∷ ns)) (omega arith)) at q)
  where
    on : (ls : List PolicyList) → leb 1 n ≡ true → leb n most_lists ≡ true → row list n ns bs ≡ some ls → (x y : Bool)
        → leb (length (n ∷ ns)) (1 + length (flat_map list_numbers ls)) ≡ x → leb (length bs) (length (flat_map list_bodies ls)) ≡ y
        → cond (x && y) (some (reading_with ls)) none ≡ some r → FileShape (n ∷ ns) bs r
    on ls e f i false y j k h = let z : ◌≡◌ {A = ℕ} 0 1 = cc in absurd (omega arith)
    on ls e f i true false j k h = let z : ◌≡◌ {A = ℕ} 0 1 = cc in absurd (omega arith)
    on ls e f i true true j k h =
        record {
          count = n;
          others = ns;
          lists = ls;
          numbers = refl;
          is = cc;
          one_or_more = leb-true 1 n e;
          eight_or_fewer = leb-true n most_lists f;
          row_is = i;
          no_numbers = omega (arith, leb-true (length (n ∷ ns)) (1 + length (flat_map list_numbers ls)) j);
          no_bodies = leb-true (length bs) (length (flat_map list_bodies ls)) k;
        }

    go : (x y : Bool) (o : Option (List PolicyList)) → leb 1 n ≡ x → leb n most_lists ≡ y → row list n ns bs ≡ o
        → cond (x && y) (and_then o (whole_reading (n ∷ ns) bs)) none ≡ some r → FileShape (n ∷ ns) bs r
    go false y o e f i h = let z : ◌≡◌ {A = ℕ} 0 1 = cc in absurd (omega arith)
    go true false o e f i h = let z : ◌≡◌ {A = ℕ} 0 1 = cc in absurd (omega arith)
    go true true none e f i h = let z : ◌≡◌ {A = ℕ} 0 1 = cc in absurd (omega arith)
    go true true (some ls) e f i h =
        on ls e f i (leb (length (n ∷ ns)) (1 + length (flat_map list_numbers ls))) (leb (length bs) (length (flat_map list_bodies ls))) refl refl h

-- what stands at the front of a string that is no longer is the string
whole : (x s : List ℕ) → x ++ drop (length x) s ≡ s → length s ≤ length x → x ≡ s
whole x s e h = sym (append-nil x) ∙ ap (λ (t : List ℕ). x ++ t) (sym (drop_of_length-le s h)) ∙ e

-- what is decoded is described
decoded_describe : (ns bs : List ℕ) (r : Reading) → Words ns → Bytes bs → FileShape ns bs r → Describe ns bs r
decoded_describe ns bs r w b s =
    let ls : List PolicyList = s.lists in
    let v : Words (s.count ∷ s.others) = rw s.numbers at w in
    let counted : length ls ≡ s.count = row_counted list s.count s.others bs ls s.row_is in
    let front = times_sound list list_sound s.count s.others bs ls b s.row_is in
    let all = row_obeys list GoodList list_obeys s.count s.others bs ls (words_drop 1 (s.count ∷ s.others) v) b s.row_is in
    let valid : ValidReading (reading_with ls) =
    record {
      marked = refl;
      mark_zeros = refl;
      reserved_zeros = refl;
      one_or_more = omega (arith, counted, s.one_or_more);
      eight_or_fewer = omega (arith, counted, s.eight_or_fewer);
      counted = refl;
      lists_valid = each GoodList ValidList (λ l g. g.0) ls all;
    } in
    rw s.is
    (record {
      valid = valid;
      describable = each GoodList Describable (λ l g. g.1) ls all;
      numbered = rw (s.numbers, counted) (ap (λ (t : List ℕ). s.count ∷ t) (whole (flat_map list_numbers ls) s.others front.numbers s.no_numbers));
      embodied = whole (flat_map list_bodies ls) bs front.bodies s.no_bodies;
    })

-- the numbers and the bodies of good lists are decoded to these
decoded : (ls : List PolicyList) → 1 ≤ length ls → length ls ≤ most_lists → All GoodList ls → described (length ls ∷ flat_map list_numbers ls) (flat_map list_bodies ls) ≡ some (reading_with ls)
unfolding described
decoded ls one eight good =
    let N : List ℕ = flat_map list_numbers ls in
    let B : List ℕ = flat_map list_bodies ls in
    let found : row list (length ls) N B ≡ some ls = rw (append-nil N, append-nil B) at (row_found list GoodList list_found ls [] [] good) in
    rw (
      le-leb 1 (length (length ls ∷ N)) (omega arith),
      le-leb 1 (length ls) one,
      le-leb (length ls) most_lists eight,
      found,
      le-leb (length (length ls ∷ N)) (1 + length N) (omega arith),
      le-leb (length B) (length B) (omega arith),
    )

-- a reading of the grammar is that of its lists
reading_is : (r : Reading) → ValidReading r → reading_with r.lists ≡ r
reading_is r v =
    λ i. record { mark = sym v.marked i; mark_zeros = sym v.mark_zeros i; reserved = sym v.reserved_zeros i; list_count = v.counted i; lists = r.lists }

-- what is described is decoded
pub describe_decoded : (ns bs : List ℕ) (r : Reading) → Describe ns bs r → described ns bs ≡ some r
describe_decoded ns bs r d =
    let v = d.valid in
    let ls : List PolicyList = r.lists in
    rw (← d.numbered, ← d.embodied)
    (ap (λ (n : ℕ). described (n ∷ flat_map list_numbers ls) (flat_map list_bodies ls)) (sym v.counted)
    ∙ decoded ls (omega (arith, v.counted, v.one_or_more)) (omega (arith, v.counted, v.eight_or_fewer)) (both ValidList Describable ls v.lists_valid d.describable)
    ∙ ap some (reading_is r v))

pub described_exactly : DescribedExactly
described_exactly ns bs r w b = (λ e. decoded_describe ns bs r w b (file_shape ns bs r e), describe_decoded ns bs r)
