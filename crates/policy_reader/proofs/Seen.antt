-- What is seen in the string of the answers for a part of a reading is that part: a list, a key, a signature, an element.
use Prim.Native.Nat.{ℕ, zero, suc, ◌+◌, ◌≤◌, ◌<◌}
use native.Mathlib.Omega.{arith}
use mathlib.Core.Path.{◌≡◌, refl, ap, sym, ◌∙◌}
use mathlib.Core.Bool.{Bool, true, false, cond}
use mathlib.Core.List.{List, [], ◌∷◌, ◌++◌, flat_map, append_assoc}
use mathlib.Core.Option.{map, some}
use lib.ListN.{length, drop, length-append, length-drop}
use lib.Seq.{take_at, drop_at, drop-drop}
use lib.Dec.{eqb}
use borrow.Author.Tests.{le-leb, eqb-true}
use Rattle.field.specs.Number.{bytes}
use Rattle.field.proofs.Laws.{length_bytes}
use Rattle.policy_grammar.specs.Grammar.{All, Digests, ValidDigests, launch_type, custom_type, stm_type, Body, body_bytes, ValidBody, Element, element_bytes, ValidElement, digest_length, Signature, Signing, signature_bytes, ValidSigning, PolicyList, list_bytes, ValidList}
use Rattle.policy_grammar.specs.Grammar as Grammar
use Rattle.policy_answers.specs.Parts.{part_at}
use Rattle.policy_answers.specs.Answers.{signing_shown, list_shown, list_size, body_shown, element_shown, key_of}
use Rattle.policy_answers.specs.Answers as Answers
use Rattle.policy_answers.specs.Seen.{seen_list, list_part, seen_part, signed_by, signature_in, pieces, seen_digests, seen_type, as_body, seen_element, seen_body}
use Rattle.policy_reader.specs.Offsets.{StandsAt}
use Rattle.policy_answers.specs.declared.ElementBody.TheVariants.{Custom, Unjudged}
use Rattle.policy_grammar.proofs.Decoding.{itself, Long, element_length}
use Rattle.policy_reader.proofs.Standing.{list_length}
use Rattle.policy_reader.proofs.Places.{elements_at, elements_fit, signing_at}

-- the bytes that stand at an offset
part_is : (s : List ℕ) (at n : ℕ) (x t : List ℕ) → at ≤ length s → drop at s ≡ x ++ t → length x ≡ n → part_at s at n ≡ x
unfolding part_at
part_is s at n x t l e h =
    rw (le-leb (at + n) (length s) (omega (arith, length-drop at s, ap length e, length-append x t)), e) (take_at x t n h)

-- a part of 1 byte or more that stands at an offset starts within the string
within : (s : List ℕ) (at : ℕ) (x t : List ℕ) → drop at s ≡ x ++ t → 0 < length x → at ≤ length s
within s at x t e h = omega (arith, length-drop at s, ap length e, length-append x t)

-- a list
module _ (s : List ℕ) (at : ℕ) (l : PolicyList) (here : StandsAt list_bytes ValidList s at l) where
  abbrev n : ℕ
  n = l.elements_size

  whole_is : (k : ℕ) (g : Signing) → l.signing ≡ g → k ≡ list_size (signing_shown at l.version n g) → part_at s at k ≡ list_bytes l
  whole_is k g e h =
      let i = list_length at l here.obeys in
      let q : length (list_bytes l) ≡ k = sym (h ∙ ap (λ (x : Signing). list_size (signing_shown at l.version n x)) (sym e) ∙ i.0) in
      part_is s at k (list_bytes l) here.rest (within s at (list_bytes l) here.rest here.stands (omega (arith, i.1))) here.stands q

  elements_are : part_at s (at + 8) n ≡ flat_map element_bytes l.elements
  elements_are = part_is s (at + 8) n (flat_map element_bytes l.elements) _ (omega (arith, elements_fit s at l here)) (elements_at s at l here) (sym here.obeys.filled)

  -- the key and the signature of a list that is signed
  module _ (g : Signature) (e : l.signing ≡ Grammar.signed g) where
    valid : ValidSigning l.signature_algorithm (Grammar.signed g)
    valid = rw e at here.obeys.signing_valid

    signed_at : drop (at + (8 + n)) s ≡ signature_bytes g ++ here.rest
    signed_at = rw e at (signing_at s at l here)

    key_at : drop (at + (8 + n) + 4) s ≡ g.key ++ (g.signature ++ here.rest)
    unfolding bytes
    key_at = rw (← drop-drop 4 (at + (8 + n)) s, signed_at) (append_assoc g.key g.signature here.rest)

    key_within : at + (8 + n) + 4 ≤ length s
    key_within = omega (arith, length-drop (at + (8 + n)) s, simp (length-append, length_bytes) at (ap length signed_at))

    pub key_is : part_at s (at + (8 + n) + 4) g.key_size ≡ g.key
    key_is = part_is s (at + (8 + n) + 4) g.key_size g.key _ key_within key_at valid.1.key_sized

    signature_at : drop (at + (8 + n) + 4 + g.key_size) s ≡ g.signature ++ here.rest
    signature_at = rw (← drop-drop g.key_size (at + (8 + n) + 4) s, key_at) (drop_at g.key (g.signature ++ here.rest) g.key_size valid.1.key_sized)

    signature_within : at + (8 + n) + 4 + g.key_size ≤ length s
    signature_within = omega (arith, valid.1.key_sized, length-drop (at + (8 + n) + 4) s, key_within, simp length-append at (ap length key_at))

    pub signature_is : part_at s (at + (8 + n) + 4 + g.key_size) g.key_size ≡ g.signature
    signature_is = part_is s (at + (8 + n) + 4 + g.key_size) g.key_size g.signature _ signature_within signature_at valid.1.signature_sized

  -- the answer where what signs the list is known
  answer : (g : Signing) → l.signing ≡ g → list_shown at (some l) ≡ signing_shown at l.version n g
  answer g e = ap (signing_shown at l.version n) e

  pub list_seen : seen_list s (list_shown at (some l)) ≡ some (list_part l)
  list_seen = go l.signing refl
    where
      go : (g : Signing) → l.signing ≡ g → seen_list s (list_shown at (some l)) ≡ some (list_part l)
      go Grammar.unsigned e =
          let a : l.signature_algorithm ≡ 0x0010 = rw e at here.obeys.signing_valid in
          let w = whole_is (8 + n) Grammar.unsigned e refl in
          ap (seen_list s) (answer Grammar.unsigned e)
          ∙ λ i. some (record { whole = w i; version = l.version; signature_algorithm = sym a i; elements_size = n; elements = elements_are i; signing = sym e i })
      go (Grammar.signed g) e =
          let a = (valid g e).0 in
          let w = whole_is (8 + n + 4 + g.key_size + g.key_size) (Grammar.signed g) e refl in
          let q : Grammar.signed (record { counter = g.counter; key_size = g.key_size; key = part_at s (at + (8 + n) + 4) g.key_size; signature = part_at s (at + (8 + n) + 4 + g.key_size) g.key_size }) ≡ l.signing =
          (λ i. Grammar.signed (record { counter = g.counter; key_size = g.key_size; key = key_is g e i; signature = signature_is g e i })) ∙ sym e in
          ap (seen_list s) (answer (Grammar.signed g) e)
          ∙ λ i. some (record { whole = w i; version = l.version; signature_algorithm = sym a i; elements_size = n; elements = elements_are i; signing = q i })

  pub key_seen : seen_part s (key_of (list_shown at (some l))) ≡ map (λ (g : Signature). g.key) (signature_in (some l))
  key_seen = go l.signing refl
    where
      go : (g : Signing) → l.signing ≡ g → seen_part s (key_of (list_shown at (some l))) ≡ map (λ (g : Signature). g.key) (signed_by l.signing)
      go Grammar.unsigned e = rw e
      go (Grammar.signed g) e = rw e (ap some (key_is g e))

  pub signature_seen : seen_part s (Answers.signature_of (list_shown at (some l))) ≡ map (λ (g : Signature). g.signature) (signature_in (some l))
  signature_seen = go l.signing refl
    where
      go : (g : Signing) → l.signing ≡ g → seen_part s (Answers.signature_of (list_shown at (some l))) ≡ map (λ (g : Signature). g.signature) (signed_by l.signing)
      go Grammar.unsigned e = rw e
      go (Grammar.signed g) e = rw e (ap some (signature_is g e))

-- an element
pieces_are : (k : ℕ) (ds : List (List ℕ)) (n : ℕ) → length ds ≡ n → All (Long k) ds → pieces n k (flat_map itself ds) ≡ ds
unfolding pieces flat_map
pieces_are k [] zero e h = refl
pieces_are k [] (suc n) e h = absurd (omega arith)
pieces_are k (d ∷ ds) zero e h = absurd (omega arith)
pieces_are k (d ∷ ds) (suc n) e h =
    rw (take_at d (flat_map itself ds) k h.0, drop_at d (flat_map itself ds) k h.0) (ap (λ (x : List (List ℕ)). d ∷ x) (pieces_are k ds n (omega arith) h.1))

digests_are : (d : Digests) → ValidDigests d → (b : List ℕ) → b ≡ flat_map itself d.digests → seen_digests d.hash_alg d.count b ≡ d
digests_are d v b q =
    let k : ℕ = digest_length d.hash_alg in
    let w : pieces d.count k b ≡ d.digests = ap (pieces d.count k) q ∙ pieces_are k d.digests d.count v.counted v.digest_lengths in
    λ i. record { hash_alg = d.hash_alg; count = d.count; digests = w i }

-- the body that is seen of its bytes, by its numbers
body_is_seen : (type : ℕ) (b : Body) → ValidBody type b → (x : List ℕ) → x ≡ body_bytes b → (seen_type (body_shown type b) ≡ type) × (as_body (body_shown type b) x ≡ b)
unfolding bytes
body_is_seen type (Grammar.launch b) v x e =
    let d = digests_are b.digests v.1.digests_valid (drop 6 x) (ap (drop 6) e) in
    (sym v.0, ap (λ (x : Digests). Grammar.launch (record { sinit_min_version = b.sinit_min_version; reserved = b.reserved; digests = x })) d)
body_is_seen type (Grammar.stm d) v x e = (sym v.0, ap Grammar.stm (digests_are d v.1 (drop 4 x) (ap (drop 4) e)))
body_is_seen type (Grammar.other b) v x e = on (eqb type custom_type) refl
  where
    on : (t : Bool) → eqb type custom_type ≡ t → (seen_type (cond t Custom (Unjudged type)) ≡ type) × (as_body (cond t Custom (Unjudged type)) x ≡ Grammar.other b)
    on true q = (sym (eqb-true type custom_type q), ap Grammar.other e)
    on false q = (refl, ap Grammar.other e)

module _ (s : List ℕ) (at : ℕ) (e : Element) (here : StandsAt element_bytes ValidElement s at e) where
  element_is : part_at s at e.size ≡ element_bytes e
  element_is =
      part_is s at e.size (element_bytes e) here.rest
      (within s at (element_bytes e) here.rest here.stands (omega (arith, element_length e))) here.stands (sym here.obeys.sized)

  body_is : drop 12 (part_at s at e.size) ≡ body_bytes e.body
  unfolding bytes
  body_is = rw element_is

  pub element_seen : seen_element s (element_shown at (some e)) ≡ some e
  element_seen =
      let (t, b) = body_is_seen e.type e.body here.obeys.body_valid _ body_is in
      λ i. some (record { size = e.size; type = t i; control = e.control; body = b i })

  pub body_seen : seen_body s (element_shown at (some e)) ≡ some (body_bytes e.body)
  body_seen = ap some body_is
