-- The element and the list at the front of numbers and bodies: what they are made of, that they stand there, and that what stands there is found.
use Prim.Native.Nat.{ℕ, zero, suc, ◌+◌, ◌≤◌, ◌<◌, ◌^◌}
use native.Mathlib.Omega.{arith}
use mathlib.Core.Path.{◌≡◌, refl, ap, sym, ◌∙◌}
use mathlib.Core.Bool.{Bool, true, false, cond, ◌&&◌}
use mathlib.Core.List.{List, [], ◌∷◌, ◌++◌, flat_map, append_assoc}
use mathlib.Core.Option.{Option, some, none, map}
use lib.ListN.{length, take, drop, length-append, take-append-drop}
use lib.Seq.{length-take-le, drop-drop}
use lib.Dec.{leb}
use borrow.Author.Tests.{le-leb, leb-true, ltb-true}
use Rattle.field.specs.Number.{Bytes}
use Rattle.field.proofs.Laws.{bytes_take, bytes_drop}
use Rattle.policy_grammar.specs.Grammar.{Body, body_bytes, Element, element_bytes, ValidBody, PolicyList}
use Rattle.policy_grammar.specs.Parser.{value_of, filling}
use Rattle.policy_grammar.specs.Layout as Layout
use Rattle.policy_grammar.specs.Layout.{known_version}
use Rattle.policy_grammar.proofs.Decoding.{body_made}
use Rattle.policy_writer.specs.Decode.{Part, and_then, row, times, written_type, size_fits, element_with, front_element, element, list_with, sized_list, front_list, list}
use Rattle.policy_writer.proofs.Rows.{Front, Sound}

-- AN ELEMENT

-- what an element that is found is made of
pub record ElementShape (ns bs : List ℕ) (e : Element) : Type 0 where
  pub type : ℕ
  pub control : ℕ
  pub size : ℕ
  pub others : List ℕ
  pub body : Body
  pub numbers : ns ≡ type ∷ control ∷ size ∷ others
  pub is : e ≡ element_with type control size body
  pub written : written_type type ≡ true
  pub short : 12 + size < 256 ^ 4
  pub there : size ≤ length bs
  pub filled : value_of (filling (Layout.body type) (take size bs)) ≡ some body

pub element_shape : (ns bs : List ℕ) (e : Element) → front_element ns bs ≡ some e → ElementShape ns bs e
unfolding front_element
element_shape [] bs e q = let z : ◌≡◌ {A = ℕ} 0 1 = cc in absurd (omega arith)
element_shape (t ∷ []) bs e q = let z : ◌≡◌ {A = ℕ} 0 1 = cc in absurd (omega arith)
element_shape (t ∷ k ∷ []) bs e q = let z : ◌≡◌ {A = ℕ} 0 1 = cc in absurd (omega arith)
element_shape (t ∷ k ∷ n ∷ ns) bs e q =
    go (written_type t) (size_fits (12 + n)) (leb n (length bs)) (value_of (filling (Layout.body t) (take n bs))) refl refl refl refl (rw (le-leb 3 (length (t ∷ k ∷ n ∷ ns)) (omega arith)) at q)
  where
    go : (x y z : Bool) (o : Option Body) → written_type t ≡ x → size_fits (12 + n) ≡ y → leb n (length bs) ≡ z → value_of (filling (Layout.body t) (take n bs)) ≡ o
        → cond (x && (y && z)) (map (element_with t k n) o) none ≡ some e → ElementShape (t ∷ k ∷ n ∷ ns) bs e
    go false y z o ex ey ez eo h = let w : ◌≡◌ {A = ℕ} 0 1 = cc in absurd (omega arith)
    go true false z o ex ey ez eo h = let w : ◌≡◌ {A = ℕ} 0 1 = cc in absurd (omega arith)
    go true true false o ex ey ez eo h = let w : ◌≡◌ {A = ℕ} 0 1 = cc in absurd (omega arith)
    go true true true none ex ey ez eo h = let w : ◌≡◌ {A = ℕ} 0 1 = cc in absurd (omega arith)
    go true true true (some b) ex ey ez eo h =
        record {
          type = t;
          control = k;
          size = n;
          others = ns;
          body = b;
          numbers = refl;
          is = cc;
          written = ex;
          short = ltb-true (12 + n) (256 ^ 4) ey;
          there = leb-true n (length bs) ez;
          filled = eo;
        }

module _ (ns bs : List ℕ) (e : Element) (h : Bytes bs) (s : ElementShape ns bs e) where
  made : ValidBody s.type s.body × (body_bytes s.body ≡ take s.size bs)
  made = body_made s.type (take s.size bs) s.body (bytes_take s.size bs h) s.filled

  sized : length (body_bytes s.body) ≡ s.size
  sized = ap length made.1 ∙ length-take-le s.size bs s.there

  front : Front element ns bs e
  front =
      rw s.is
      (record {
        numbers = rw (s.numbers, sized);
        bodies = rw (sized, made.1) (take-append-drop s.size bs);
      })

pub element_sound : Sound element
element_sound ns bs e h q = front ns bs e h (element_shape ns bs e q)

-- PARTS IN A ROW

module _ (P : Part) where
  -- a row of one part or more is the first of them and a row of the others
  pub record RowShape (k : ℕ) (ns bs : List ℕ) (l : List P.Value) : Type 0 where
    pub first : P.Value
    pub others : List P.Value
    pub is : l ≡ first ∷ others
    pub front : P.front ns bs ≡ some first
    pub behind : row P k (drop (length (P.numbers first)) ns) (drop (length (P.bodies first)) bs) ≡ some others

  pub row_shape : (k : ℕ) (ns bs : List ℕ) (l : List P.Value) → row P (suc k) ns bs ≡ some l → RowShape k ns bs l
  unfolding row
  row_shape k ns bs l q = go (P.front ns bs) refl q
    where
      rest : P.Value → Option (List P.Value)
      rest a = row P k (drop (length (P.numbers a)) ns) (drop (length (P.bodies a)) bs)

      on : (a : P.Value) → P.front ns bs ≡ some a → (o : Option (List P.Value)) → rest a ≡ o → map (λ x. a ∷ x) o ≡ some l → RowShape k ns bs l
      on a e none i h = let z : ◌≡◌ {A = ℕ} 0 1 = cc in absurd (omega arith)
      on a e (some x) i h = record { first = a; others = x; is = cc; front = e; behind = i }

      go : (o : Option P.Value) → P.front ns bs ≡ o → and_then o (λ a. map (λ x. a ∷ x) (rest a)) ≡ some l → RowShape k ns bs l
      go none e h = let z : ◌≡◌ {A = ℕ} 0 1 = cc in absurd (omega arith)
      go (some a) e h = on a e (rest a) refl h

  pub row_none : (ns bs : List ℕ) (l : List P.Value) → row P 0 ns bs ≡ some l → l ≡ []
  unfolding row
  row_none ns bs l q = cc

  pub row_counted : (k : ℕ) (ns bs : List ℕ) (l : List P.Value) → row P k ns bs ≡ some l → length l ≡ k
  row_counted zero ns bs l q = ap length (row_none ns bs l q)
  row_counted (suc k) ns bs l q = let s = row_shape k ns bs l q in ap length s.is ∙ ap suc (row_counted k _ _ s.others s.behind)

  -- what stands at the front, and behind it what stands there
  joined : (x y s : List ℕ) → y ++ drop (length y) (drop (length x) s) ≡ drop (length x) s → x ++ drop (length x) s ≡ s → (x ++ y) ++ drop (length (x ++ y)) s ≡ s
  joined x y s e f =
      append_assoc x y (drop (length (x ++ y)) s)
      ∙ ap (λ (t : List ℕ). x ++ (y ++ t)) (ap (λ (n : ℕ). drop n s) (length-append x y) ∙ sym (drop-drop (length y) (length x) s))
      ∙ ap (λ (t : List ℕ). x ++ t) e
      ∙ f

  pub times_sound : Sound P → (n : ℕ) → Sound (times n P)
  unfolding flat_map
  times_sound h zero ns bs l b q = rw (row_none ns bs l q) (record { numbers = refl; bodies = refl })
  times_sound h (suc n) ns bs l b q =
      let s = row_shape n ns bs l q in
      let a = s.first in
      let f = h ns bs a b s.front in
      let g = times_sound h n (drop (length (P.numbers a)) ns) (drop (length (P.bodies a)) bs) s.others (bytes_drop (length (P.bodies a)) bs b) s.behind in
      rw s.is
      (record {
        numbers = joined (P.numbers a) (flat_map P.numbers s.others) ns g.numbers f.numbers;
        bodies = joined (P.bodies a) (flat_map P.bodies s.others) bs g.bodies f.bodies;
      })

-- A LIST

-- what a list that is found is made of
pub record ListShape (ns bs : List ℕ) (l : PolicyList) : Type 0 where
  pub version : ℕ
  pub count : ℕ
  pub others : List ℕ
  pub elements : List Element
  pub numbers : ns ≡ version ∷ count ∷ others
  pub is : l ≡ list_with version elements
  pub known : known_version version ≡ true
  pub row_is : row element count others bs ≡ some elements
  pub short : length (flat_map element_bytes elements) < 256 ^ 4

pub list_shape : (ns bs : List ℕ) (l : PolicyList) → front_list ns bs ≡ some l → ListShape ns bs l
unfolding front_list
list_shape [] bs l q = let z : ◌≡◌ {A = ℕ} 0 1 = cc in absurd (omega arith)
list_shape (v ∷ []) bs l q = let z : ◌≡◌ {A = ℕ} 0 1 = cc in absurd (omega arith)
list_shape (v ∷ n ∷ ns) bs l q = go (known_version v) (row element n ns bs) refl refl (rw (le-leb 2 (length (v ∷ n ∷ ns)) (omega arith)) at q)
  where
    on : (es : List Element) → known_version v ≡ true → row element n ns bs ≡ some es → (x : Bool) → size_fits (length (flat_map element_bytes es)) ≡ x
        → cond x (some (list_with v es)) none ≡ some l → ListShape (v ∷ n ∷ ns) bs l
    on es e i false j h = let z : ◌≡◌ {A = ℕ} 0 1 = cc in absurd (omega arith)
    on es e i true j h =
        record {
          version = v;
          count = n;
          others = ns;
          elements = es;
          numbers = refl;
          is = cc;
          known = e;
          row_is = i;
          short = ltb-true (length (flat_map element_bytes es)) (256 ^ 4) j;
        }

    go : (x : Bool) (o : Option (List Element)) → known_version v ≡ x → row element n ns bs ≡ o → cond x (and_then o (sized_list v)) none ≡ some l → ListShape (v ∷ n ∷ ns) bs l
    go false o e i h = let z : ◌≡◌ {A = ℕ} 0 1 = cc in absurd (omega arith)
    go true none e i h = let z : ◌≡◌ {A = ℕ} 0 1 = cc in absurd (omega arith)
    go true (some es) e i h = on es e i (size_fits (length (flat_map element_bytes es))) refl h

module _ (ns bs : List ℕ) (l : PolicyList) (h : Bytes bs) (s : ListShape ns bs l) where
  pub list_counted : length s.elements ≡ s.count
  list_counted = row_counted element s.count s.others bs s.elements s.row_is

  list_front : Front list ns bs l
  list_front =
      let f = times_sound element element_sound s.count s.others bs s.elements h s.row_is in
      rw s.is (record { numbers = rw (s.numbers, list_counted) (ap (λ (t : List ℕ). s.version ∷ s.count ∷ t) f.numbers); bodies = f.bodies })

pub list_sound : Sound list
list_sound ns bs l h q = list_front ns bs l h (list_shape ns bs l q)
