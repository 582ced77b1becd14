-- What is found at the front of numbers of 32 bits and of bodies of bytes obeys the grammar, and what obeys it is found, whatever stands behind it.
-- One law each way for so many parts in a row; then an element, and a list.
use Prim.Native.Nat.{ℕ, zero, suc, ◌+◌, ◌<◌, ◌^◌}
use native.Mathlib.Omega.{arith}
use mathlib.Core.Path.{◌≡◌, refl, ap, sym, ◌∙◌}
use mathlib.Core.List.{List, [], ◌∷◌, ◌++◌, flat_map, append_assoc}
use mathlib.Core.Option.{some}
use lib.ListN.{length, take, drop, length-append}
use lib.Seq.{get_or-drop, length-take-le, take-append_seam, drop-append_seam}
use borrow.Author.Tests.{le-leb, lt-ltb}
use Rattle.field.specs.Number.{Bytes}
use Rattle.field.proofs.Laws.{bytes_take, bytes_drop}
use Rattle.policy_grammar.specs.Grammar.{All, body_bytes, launch_type, custom_type, Element, element_bytes, ValidElement, Signing, unsigned_algorithm, ValidSigning, PolicyList, ValidList}
use Rattle.policy_grammar.specs.Grammar as Grammar
use Rattle.policy_grammar.proofs.Decoding.{one_of, which_of, body_made, body_read, element_length}
use Rattle.policy_writer.specs.Descriptions.{element_numbers, WrittenType, list_numbers, Describable}
use Rattle.policy_writer.specs.Decode.{Part, row, times, element_with, front_element, element, list_with, front_list, list}
use Rattle.policy_writer.specs.Writing.{Words}
use Rattle.policy_writer.proofs.Fronts.{element_shape, row_shape, row_none, list_shape}

-- what is found obeys Q
abbrev pub Obeys : (P : Part) → (P.Value → Type 0) → Type 0
Obeys P Q = (ns bs : List ℕ) (a : P.Value) → Words ns → Bytes bs → P.front ns bs ≡ some a → Q a

-- what obeys Q is found, whatever stands behind it
abbrev pub Found : (P : Part) → (P.Value → Type 0) → Type 0
Found P Q = (a : P.Value) (ns bs : List ℕ) → Q a → P.front (P.numbers a ++ ns) (P.bodies a ++ bs) ≡ some a

pub words_drop : (n : ℕ) (ns : List ℕ) → Words ns → Words (drop n ns)
words_drop n ns w i = rw get_or-drop (w (n + i))

-- two properties of every value at once
pub both : {A : Type 0} (Q R : A → Type 0) (l : List A) → All Q l → All R l → All (λ (a : A). Q a × R a) l
both Q R [] q r = tt
both Q R (a ∷ l) q r = ((q.0, r.0), both Q R l q.1 r.1)

pub each : {A : Type 0} (Q R : A → Type 0) → ((a : A) → Q a → R a) → (l : List A) → All Q l → All R l
each Q R h [] q = tt
each Q R h (a ∷ l) q = (h a q.0, each Q R h l q.1)

-- PARTS IN A ROW

module _ (P : Part) (Q : P.Value → Type 0) where
  pub row_obeys : Obeys P Q → (n : ℕ) → Obeys (times n P) (All Q)
  row_obeys h zero ns bs l w b e = rw (row_none P ns bs l e) tt
  row_obeys h (suc n) ns bs l w b e =
      let s = row_shape P n ns bs l e in
      let k : ℕ = length (P.numbers s.first) in
      let m : ℕ = length (P.bodies s.first) in
      rw s.is (h ns bs s.first w b s.front, row_obeys h n (drop k ns) (drop m bs) s.others (words_drop k ns w) (bytes_drop m bs b) s.behind)

  pub row_found : Found P Q → (l : List P.Value) (ns bs : List ℕ) → All Q l → row P (length l) (flat_map P.numbers l ++ ns) (flat_map P.bodies l ++ bs) ≡ some l
  unfolding row flat_map
  row_found h [] ns bs q = refl
  row_found h (a ∷ l) ns bs q =
      rw (
        append_assoc (P.numbers a) (flat_map P.numbers l) ns,
        append_assoc (P.bodies a) (flat_map P.bodies l) bs,
        h a (flat_map P.numbers l ++ ns) (flat_map P.bodies l ++ bs) q.0,
        drop-append_seam (P.numbers a) (flat_map P.numbers l ++ ns),
        drop-append_seam (P.bodies a) (flat_map P.bodies l ++ bs),
        row_found h l ns bs q.1,
      )

-- AN ELEMENT

abbrev pub GoodElement : Element → Type 0
GoodElement e = ValidElement e × WrittenType e

pub element_obeys : Obeys element GoodElement
element_obeys ns bs e w b q =
    let s = element_shape ns bs e q in
    let made = body_made s.type (take s.size bs) s.body (bytes_take s.size bs b) s.filled in
    let sized : length (body_bytes s.body) ≡ s.size = ap length made.1 ∙ length-take-le s.size bs s.there in
    let v : Words (s.type ∷ s.control ∷ s.size ∷ s.others) = rw s.numbers at w in
    let f : Element = element_with s.type s.control s.size s.body in
    let valid : ValidElement f = record { size_fits = s.short; type_fits = v 0; control_fits = v 1; sized = omega (arith, element_length f, sized); body_valid = made.0 } in
    rw s.is (valid, which_of s.type launch_type custom_type s.written)

pub element_found : Found element GoodElement
unfolding front_element
element_found e ns bs (v, t) =
    let B : List ℕ = body_bytes e.body in
    let z : 12 + length B ≡ e.size = omega (arith, v.sized, element_length e) in
    let f : 12 + length B < 256 ^ 4 = omega (arith, v.size_fits) in
    rw (
      le-leb 3 (length (element_numbers e ++ ns)) (omega arith),
      one_of e.type launch_type custom_type t,
      lt-ltb (12 + length B) (256 ^ 4) f,
      le-leb (length B) (length (B ++ bs)) (omega (arith, length-append B bs)),
      take-append_seam B bs,
      body_read e.type e.body v.body_valid,
    )
    (λ i. some (record { size = z i; type = e.type; control = e.control; body = e.body }))

-- A LIST

abbrev pub GoodList : PolicyList → Type 0
GoodList l = ValidList l × Describable l

-- the algorithm of a list that is not signed
algorithm : (a : ℕ) (g : Signing) → g ≡ Grammar.unsigned → ValidSigning a g → a ≡ unsigned_algorithm
algorithm a Grammar.unsigned e v = v
algorithm a (Grammar.signed g) e v = let z : ◌≡◌ {A = ℕ} 0 1 = cc in absurd (omega arith)

pub list_obeys : Obeys list GoodList
list_obeys ns bs l w b q =
    let s = list_shape ns bs l q in
    let v : Words (s.version ∷ s.count ∷ s.others) = rw s.numbers at w in
    let all = row_obeys element GoodElement element_obeys s.count s.others bs s.elements (words_drop 2 (s.version ∷ s.count ∷ s.others) v) b s.row_is in
    let valid : ValidList (list_with s.version s.elements) =
    record {
      version_known = which_of s.version 0x0200 0x0201 s.known;
      size_fits = s.short;
      filled = refl;
      elements_valid = each GoodElement ValidElement (λ e g. g.0) s.elements all;
      signing_valid = refl;
    } in
    rw s.is (valid, record { unsigned = refl; types = each GoodElement WrittenType (λ e g. g.1) s.elements all })

pub list_found : Found list GoodList
unfolding front_list
list_found l ns bs (v, u) =
    let es : List Element = l.elements in
    let size : length (flat_map element_bytes es) ≡ l.elements_size = sym v.filled in
    let alg : unsigned_algorithm ≡ l.signature_algorithm = sym (algorithm l.signature_algorithm l.signing u.unsigned v.signing_valid) in
    let signing : Grammar.unsigned ≡ l.signing = sym u.unsigned in
    let fits : length (flat_map element_bytes es) < 256 ^ 4 = omega (arith, v.size_fits, size) in
    rw (
      le-leb 2 (length (list_numbers l ++ ns)) (omega arith),
      one_of l.version 0x0200 0x0201 v.version_known,
      row_found element GoodElement element_found es ns bs (both ValidElement WrittenType es v.elements_valid u.types),
      lt-ltb (length (flat_map element_bytes es)) (256 ^ 4) fits,
    )
    (λ i. some (record { version = l.version; signature_algorithm = alg i; elements_size = size i; elements = es; signing = signing i }))
