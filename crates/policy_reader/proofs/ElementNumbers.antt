-- The numbers of the fields of an element that stands at the front of a string: those that the string has at the fields' offsets.
use Prim.Native.Nat.{ℕ, ◌+◌, ◌≤◌, ◌<◌, ◌^◌}
use native.Mathlib.Omega.{arith}
use mathlib.Core.Path.{◌≡◌, refl, ap, sym, ◌∙◌}
use mathlib.Core.List.{List, ◌++◌}
use lib.ListN.{length, get_or, drop, length-drop, length-append}
use lib.Seq.{drop-drop}
use lib.Dec.{lit≤}
use borrow.Author.Tests.{eq-eqb, ne_eqb}
use mir.Val.{Fits}
use mir.Syntax.{w8}
use Rattle.field.specs.Number.{bytes}
use Rattle.field.specs.Field.{number_at}
use Rattle.field.proofs.Laws.{length_bytes, number_bytes, number_at_fits}
use Rattle.policy_grammar.specs.Grammar.{Digests, digests_bytes, ValidDigests, Body, body_bytes, ValidBody, launch_type, custom_type, stm_type, Element, element_bytes, ValidElement}
use Rattle.policy_grammar.specs.Grammar as Grammar
use Rattle.policy_grammar.specs.Parser.{value, value_of, read}
use Rattle.policy_grammar.specs.Layout as Layout
use Rattle.policy_grammar.specs.Decode as Decode
use Rattle.policy_grammar.proofs.Soundness.{reads_sound}
use Rattle.policy_grammar.proofs.Decoding.{element_sound}
use Rattle.policy_answers.specs.Answers.{body_shown, element_shown}
use Rattle.policy_answers.specs.declared.ElementBody.{ElementBody}
use Rattle.policy_answers.specs.Types.{ElementAnswer}
use Rattle.policy_reader.specs.Inner.{Extent, extent_of, body_numbers}
use Rattle.std.specs.Prelude.{Ok, Err, Some, None}
use Rattle.field.specs.declared.Fault.{Fault}
use Rattle.policy_reader.proofs.ReadExtents.{size_read, fault_read}

-- a number of k bytes stands at an offset
module _ (t : List ℕ) (at k x : ℕ) (u : List ℕ) (l : 1 ≤ k) (h : k ≤ 8) (e : drop at t ≡ bytes k x ++ u) (f : x < 256 ^ k) where
  long : length (drop at t) ≡ k + length u
  long = rw e (length-append (bytes k x) u ∙ ap (λ (m : ℕ). m + length u) (length_bytes k x))

  pub stands_number : {n : ℕ} → n ≡ number_at t at k → n ≡ x
  stands_number q = q ∙ number_at_fits t at k l h (omega (arith, long, length-drop at t)) ∙ rw e (number_bytes k x u f)

-- AN ELEMENT

module _ (t rest : List ℕ) (type : ℕ) where
  -- by its body
  abbrev Follows : Body → Type 0
  Follows b = drop 12 t ≡ body_bytes b ++ rest

  later : (k : ℕ) (x : List ℕ) → drop k (drop 12 t) ≡ x → drop (12 + k) t ≡ x
  later k x e = sym (drop-drop k 12 t) ∙ e

  -- digests that stand at an offset of the body
  digests_numbers : (k : ℕ) (d : Digests) → ValidDigests d → drop (12 + k) t ≡ digests_bytes d ++ rest → {a n : ℕ} → a ≡ number_at t (12 + k) 2 → n ≡ number_at t (12 + k + 2) 2
      → (a ≡ d.hash_alg) × (n ≡ d.count)
  unfolding bytes
  digests_numbers k d v e ea en = (
    stands_number t (12 + k) 2 d.hash_alg _ (lit≤ tt) (lit≤ tt) e v.alg_fits ea,
    stands_number t (12 + k + 2) 2 d.count _ (lit≤ tt) (lit≤ tt) (sym (drop-drop 2 (12 + k) t) ∙ ap (drop 2) e) v.count_fits en,
  )

  numbers_are : (b : Body) → ValidBody type b → Follows b → body_numbers t type ≡ body_shown type b
  unfolding bytes
  numbers_are (Grammar.launch b) h f =
      let i : number_at t 12 1 ≡ b.sinit_min_version = stands_number t 12 1 b.sinit_min_version _ (lit≤ tt) (lit≤ tt) f h.1.version_fits refl in
      let j : number_at t 13 1 ≡ b.reserved = stands_number t 13 1 b.reserved _ (lit≤ tt) (lit≤ tt) (later 1 _ (ap (drop 1) f)) h.1.reserved_fits refl in
      let (x, y) = digests_numbers 2 b.digests h.1.digests_valid (later 2 _ (ap (drop 2) f)) refl refl in
      rw (eq-eqb type launch_type h.0, i, j, x, y)
  numbers_are (Grammar.stm d) h f =
      let (x, y) = digests_numbers 0 d h.1 f refl refl in
      rw (ne_eqb type launch_type (λ e. omega (arith, h.0)), eq-eqb type stm_type h.0, x, y)
  numbers_are (Grammar.other b) h f = rw (ne_eqb type launch_type h.0, ne_eqb type stm_type h.1)

-- an element that stands at the front
pub record ElementAtFront (t : List ℕ) (size : ℕ) (e : Element) : Type 0 where
  pub valid : ValidElement e
  pub sized : e.size ≡ size
  pub type_at : drop 4 t ≡ bytes 4 e.type ++ (bytes 4 e.control ++ (body_bytes e.body ++ drop size t))

at_front : (t : List ℕ) (size : ℕ) (e : Element) → ValidElement e × (length (element_bytes e) ≡ size) × (element_bytes e ++ drop size t ≡ t) → ElementAtFront t size e
unfolding bytes
at_front t size e (v, l, m) = record { valid = v; sized = v.sized ∙ l; type_at = sym (ap (drop 4) m) }

module _ (t : List ℕ) (start : ℕ) (b : (i : ℕ) → Fits w8 (get_or t i 0)) (w : Extent) (ew : w ≡ extent_of (read Layout.element t)) where
  abbrev shown : ElementAnswer
  shown = element_shown start (value_of (Decode.element t))

  pub answers_none : (f : Fault) → w ≡ Err f → None ≡ shown
  answers_none f q = rw (fault_read (read Layout.element t) f (sym ew ∙ q))

  module _ (size : ℕ) (qw : w ≡ Ok size) where
    there : (e : Element) × (Decode.element t ≡ value e size)
    there = size_read (read Layout.element t) size (sym ew ∙ qw)

    abbrev e : Element
    e = there.0

    front : ElementAtFront t size e
    front = at_front t size e (reads_sound element_bytes ValidElement Layout.element element_sound t e size (λ i. (b i).fits) there.1)

    follows : drop 12 t ≡ body_bytes e.body ++ drop size t
    unfolding bytes
    follows = sym (drop-drop 8 4 t) ∙ ap (drop 8) front.type_at

    module _ (kind control : ℕ) (ek : kind ≡ number_at t 4 4) (ec : control ≡ number_at t 8 4) where
      kind_is : kind ≡ e.type
      kind_is = stands_number t 4 4 e.type _ (lit≤ tt) (lit≤ tt) front.type_at front.valid.type_fits ek

      control_is : control ≡ e.control
      unfolding bytes
      control_is = stands_number t 8 4 e.control _ (lit≤ tt) (lit≤ tt) (sym (drop-drop 4 4 t) ∙ ap (drop 4) front.type_at) front.valid.control_fits ec

      pub answers_element : (b : ElementBody) → b ≡ body_numbers t kind → Some (record { start = start; size = size; control = control; body = b }) ≡ shown
      answers_element b eb =
          let i : b ≡ body_shown e.type e.body = eb ∙ rw kind_is (numbers_are t (drop size t) e.type e.body front.valid.body_valid follows) in
          rw (there.1, control_is, i, front.sized)
