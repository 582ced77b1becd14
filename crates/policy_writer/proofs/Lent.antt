-- The numbers and the bodies of a reading of the grammar can be lent: its numbers are of 32 bits, and its bodies are bytes where the file that it makes is.
use Prim.Native.Nat.{ℕ, zero, suc, ◌≤◌, ◌<◌, ◌^◌}
use native.Mathlib.Omega.{arith}
use mathlib.Core.Path.{refl}
use mathlib.Core.Logic.{⊎_elim}
use mathlib.Core.List.{List, [], ◌∷◌, ◌++◌, flat_map}
use lib.Dec.{lit<}
use lib.ListN.{length, get_or, length-append}
use Rattle.field.specs.Number.{Bytes}
use Rattle.field.specs.Number as Number
use Rattle.policy_grammar.specs.Grammar.{All, Element, element_bytes, ValidElement, signing_bytes, PolicyList, list_bytes, ValidList, Reading, file_bytes, ValidReading}
use Rattle.policy_grammar.proofs.Soundness.{bytes_left_lem, bytes_right}
use Rattle.policy_grammar.proofs.Decoding.{element_length}
use Rattle.policy_writer.specs.Descriptions.{element_numbers, element_body, list_numbers, list_bodies, numbers_of, bodies_of}
use Rattle.policy_writer.specs.Writing.{Words}

-- numbers below a limit, which words and bytes are
module _ (m : ℕ) where
  abbrev Below : List ℕ → Type 0
  Below s = (i : ℕ) → get_or s i 0 < m

  append_below : (s t : List ℕ) → Below s → Below t → Below (s ++ t)
  append_below [] t a b i = b i
  append_below (x ∷ s) t a b zero = a 0
  append_below (x ∷ s) t a b (suc i) = append_below s t (λ j. a (suc j)) b i

  flat_below : {A : Type 0} (f : A → List ℕ) (Q : A → Type 0) → 0 < m → ((a : A) → Q a → Below (f a)) → (l : List A) → All Q l → Below (flat_map f l)
  unfolding flat_map
  flat_below f Q z h [] q = λ i. z
  flat_below f Q z h (a ∷ l) q = append_below (f a) (flat_map f l) (h a q.0) (flat_below f Q z h l q.1)

-- THE NUMBERS

element_words : (e : Element) → ValidElement e → Words (element_numbers e)
element_words e v zero = v.type_fits
element_words e v (suc zero) = v.control_fits
element_words e v (suc (suc zero)) = omega (arith, v.size_fits, v.sized, element_length e)
element_words e v (suc (suc (suc i))) = lit< tt

-- an element has a byte or more
few : (es : List Element) → length es ≤ length (flat_map element_bytes es)
unfolding flat_map
few [] = omega arith
few (e ∷ es) = omega (arith, few es, length-append (element_bytes e) (flat_map element_bytes es), element_length e)

list_words : (l : PolicyList) → ValidList l → Words (list_numbers l)
list_words l v zero = ⊎_elim (λ e. omega arith) (λ e. omega arith) v.version_known
list_words l v (suc zero) = omega (arith, few l.elements, v.filled, v.size_fits)
list_words l v (suc (suc i)) = flat_below (2 ^ 32) element_numbers ValidElement (lit< tt) element_words l.elements v.elements_valid i

pub file_words : (r : Reading) → ValidReading r → Words (numbers_of r)
file_words r v zero = omega (arith, v.eight_or_fewer)
file_words r v (suc i) = flat_below (2 ^ 32) list_numbers ValidList (lit< tt) list_words r.lists v.lists_valid i

-- THE BODIES

left : (x t : List ℕ) → Bytes (x ++ t) → Bytes x
left x t b = bytes_left_lem x t (x ++ t) refl b

right : (x t : List ℕ) → Bytes (x ++ t) → Bytes t
right x t b = bytes_right x t (x ++ t) refl b

-- where the bytes of each value hold its bodies, those of a row hold theirs
flat_bytes : {A : Type 0} (f g : A → List ℕ) → ((a : A) → Bytes (f a) → Bytes (g a)) → (l : List A) → Bytes (flat_map f l) → Bytes (flat_map g l)
unfolding flat_map
flat_bytes f g h [] b = b
flat_bytes f g h (a ∷ l) b = append_below 256 (g a) (flat_map g l) (h a (left (f a) (flat_map f l) b)) (flat_bytes f g h l (right (f a) (flat_map f l) b))

element_bytes_lem : (e : Element) → Bytes (element_bytes e) → Bytes (element_body e)
element_bytes_lem e b = right (Number.bytes 4 e.control) _ (right (Number.bytes 4 e.type) _ (right (Number.bytes 4 e.size) _ b))

list_bytes_lem : (l : PolicyList) → Bytes (list_bytes l) → Bytes (list_bodies l)
list_bytes_lem l b =
    flat_bytes element_bytes element_body element_bytes_lem l.elements
    (left (flat_map element_bytes l.elements) (signing_bytes l.signing) (right (Number.bytes 4 l.elements_size) _ (right (Number.bytes 2 l.signature_algorithm) _ (right (Number.bytes 2 l.version) _ b))))

pub file_bytes_lem : (r : Reading) → Bytes (file_bytes r) → Bytes (bodies_of r)
file_bytes_lem r b =
    flat_bytes list_bytes list_bodies list_bytes_lem r.lists (right (Number.bytes 1 r.list_count) _ (right r.reserved _ (right r.mark_zeros _ (right r.mark _ b))))
