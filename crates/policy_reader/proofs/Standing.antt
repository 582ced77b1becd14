-- What stands one after the other in a string and is answered by its offset: elements, and lists. Each law is said once for both.
-- From an offset on stand all the values of a list, `drop at s ≡ flat_map make xs`: the first is read, the others follow it, and after the last nothing is read.
-- An answer with a size other than 0 is of a value that was read, which ends within the string; where its size is 0 nothing is read.
use Prim.Native.Nat.{ℕ, ◌+◌, ◌≤◌, ◌<◌}
use native.Mathlib.Omega.{arith}
use mathlib.Core.Path.{◌≡◌, refl, ap, sym, ◌∙◌}
use mathlib.Core.List.{List, [], ◌∷◌, ◌++◌, flat_map}
use mathlib.Core.Option.{Option, some, none}
use lib.ListN.{length, get_or, drop, length-drop, length-append}
use lib.Seq.{drop-drop, drop-append_seam}
use mir.Val.{Fits}
use mir.Syntax.{w8}
use Rattle.field.specs.Number.{Bytes}
use Rattle.field.proofs.Laws.{bytes_drop, length_bytes}
use Rattle.policy_grammar.specs.Grammar.{All, Body, custom_type, Element, element_bytes, ValidElement, Signing, ValidSigning, signing_bytes, PolicyList, list_bytes, ValidList}
use Rattle.policy_grammar.specs.Grammar as Grammar
use Rattle.policy_grammar.specs.Format.{◌>>=◌, number}
use Rattle.policy_grammar.specs.Parser.{Read, value, fault, value_of, Parser, read}
use Rattle.policy_grammar.specs.Layout as Layout
use Rattle.policy_grammar.specs.Decode as Decode
use Rattle.policy_answers.specs.Answers.{element_shown, element_size, signing_shown, list_shown, list_size}
use Rattle.std.specs.Prelude.{Some, None}
use Rattle.policy_answers.specs.declared.ListAt.{ListAt}
use Rattle.policy_answers.specs.declared.ElementAt.{ElementAt}
use Rattle.policy_answers.specs.Types.{ListAnswer, ElementAnswer}
use Rattle.policy_grammar.proofs.Soundness.{reads_sound, reads_complete}
use Rattle.policy_grammar.proofs.Decoding.{element_sound, element_complete, element_length, list_sound, list_complete}

pub record Kind : Type 1 where
  pub Value : Type 0
  pub make : Value → List ℕ
  pub Valid : Value → Type 0
  pub parser : Parser Value
  pub sound : (s : List ℕ) (a : Value) (n : ℕ) → Bytes s → parser s ≡ value a n → Valid a × (length (make a) ≡ n) × (make a ++ drop n s ≡ s)
  pub complete : (a : Value) (t : List ℕ) → Valid a → parser (make a ++ t) ≡ value a (length (make a))
  pub ends : value_of (parser []) ≡ none
  -- the answer for a value, and its size
  pub Answer : Type 0
  pub shown : ℕ → Option Value → Answer
  pub missing : Answer
  pub none_shown : (at : ℕ) → missing ≡ shown at none
  pub size : Answer → ℕ
  pub no_size : size missing ≡ 0
  pub size_is : (at : ℕ) (a : Value) → Valid a → (size (shown at (some a)) ≡ length (make a)) × (0 < length (make a))

-- where values stand
module _ (κ : Kind) (s : List ℕ) (at : ℕ) where
  module _ (a : κ.Value) (xs : List κ.Value) (all : All κ.Valid (a ∷ xs)) (e : drop at s ≡ flat_map κ.make (a ∷ xs)) where
    pub here : κ.parser (drop at s) ≡ value a (length (κ.make a))
    unfolding flat_map
    here = rw e (κ.complete a (flat_map κ.make xs) all.0)

    pub next : drop (at + length (κ.make a)) s ≡ flat_map κ.make xs
    unfolding flat_map
    next = rw (← drop-drop (length (κ.make a)) at s, e) (drop-append_seam (κ.make a) (flat_map κ.make xs))

    pub inside : at + length (κ.make a) ≤ length s
    unfolding flat_map
    inside = omega (arith, (κ.size_is at a all.0).1, length-drop at s, length-append (κ.make a) (flat_map κ.make xs), ap length e)

  pub at_end : drop at s ≡ flat_map κ.make [] → value_of (κ.parser (drop at s)) ≡ none
  unfolding flat_map
  at_end e = rw e κ.ends

-- the answer at an offset and its size
module _ (κ : Kind) (s : List ℕ) (at : ℕ) (b : (i : ℕ) → Fits w8 (get_or s i 0)) (e : κ.Answer) (z : ℕ) (ee : e ≡ κ.shown at (value_of (κ.parser (drop at s)))) (ez : z ≡ κ.size e) where
  z_is : z ≡ κ.size (κ.shown at (value_of (κ.parser (drop at s))))
  z_is = ez ∙ ap κ.size ee

  abbrev Stands : Type 0
  Stands = (a : κ.Value) × (κ.parser (drop at s) ≡ value a z) × (0 < z) × (at + z ≤ length s)

  there : (a : κ.Value) (n : ℕ) → κ.parser (drop at s) ≡ value a n → Stands
  there a n q =
      let (v, l, d) = κ.sound (drop at s) a n (bytes_drop at s (λ i. (b i).fits)) q in
      let w = κ.size_is at a v in
      let i : z ≡ n = z_is ∙ rw q (w.0 ∙ l) in
      (a, rw i q, omega (arith, w.1), omega (arith, w.1, length-drop at s, length-append (κ.make a) (drop n (drop at s)), ap length d))

  -- where the answer is not that nothing is there
  pub there_is : (e ≡ κ.missing → ⊥) → Stands
  there_is h = go (κ.parser (drop at s)) refl
    where
      go : (g : Read κ.Value) → κ.parser (drop at s) ≡ g → Stands
      go (fault p) q = absurd (h (ee ∙ rw q (sym (κ.none_shown at))))
      go (value a n) q = there a n q

  pub stands : (z ≡ 0 → ⊥) → Stands
  stands h = go (κ.parser (drop at s)) refl
    where
      go : (g : Read κ.Value) → κ.parser (drop at s) ≡ g → Stands
      go (fault p) q = absurd (h (z_is ∙ rw (q, ← κ.none_shown at) κ.no_size))
      go (value a n) q = there a n q

  pub nothing : z ≡ 0 → value_of (κ.parser (drop at s)) ≡ none
  nothing h = go (κ.parser (drop at s)) refl
    where
      go : (g : Read κ.Value) → κ.parser (drop at s) ≡ g → value_of (κ.parser (drop at s)) ≡ none
      go (fault p) q = rw q
      go (value a n) q = absurd (omega (arith, (there a n q).2))

-- elements
pub no_element : value_of (Decode.element []) ≡ none
unfolding Layout.element number ◌>>=◌ read
no_element = refl

abbrev pub element : Kind
element =
    record {
      Value = Element;
      make = element_bytes;
      Valid = ValidElement;
      parser = Decode.element;
      sound = reads_sound element_bytes ValidElement Layout.element element_sound;
      complete = reads_complete element_bytes ValidElement Layout.element element_complete;
      ends = no_element;
      Answer = ElementAnswer;
      shown = element_shown;
      missing = None;
      none_shown = λ at. refl;
      size = element_size;
      no_size = refl;
      size_is = λ at e v. (v.sized, omega (arith, element_length e));
    }

-- lists
pub list_length : (start : ℕ) (l : PolicyList) → ValidList l → (list_size (list_shown start (some l)) ≡ length (list_bytes l)) × (0 < length (list_bytes l))
list_length start l v =
    let e : length (list_bytes l) ≡ 8 + length (flat_map element_bytes l.elements) + length (signing_bytes l.signing) = simp (length-append, length_bytes) (omega arith) in
    (go l.signing v.signing_valid ∙ ap (λ (n : ℕ). 8 + n + length (signing_bytes l.signing)) v.filled ∙ sym e, omega arith)
  where
    go : (g : Signing) → ValidSigning l.signature_algorithm g → list_size (signing_shown start l.version l.elements_size g) ≡ 8 + l.elements_size + length (signing_bytes g)
    go Grammar.unsigned h = omega arith
    go (Grammar.signed g) h = simp (length-append, length_bytes) (omega (arith, h.1.key_sized, h.1.signature_sized))

pub no_list_lem : value_of (Decode.list []) ≡ none
unfolding Layout.list number ◌>>=◌ read
no_list_lem = refl

abbrev pub list : Kind
list =
    record {
      Value = PolicyList;
      make = list_bytes;
      Valid = ValidList;
      parser = Decode.list;
      sound = reads_sound list_bytes ValidList Layout.list list_sound;
      complete = reads_complete list_bytes ValidList Layout.list list_complete;
      ends = no_list_lem;
      Answer = ListAnswer;
      shown = list_shown;
      missing = None;
      none_shown = λ at. refl;
      size = list_size;
      no_size = refl;
      size_is = list_length;
    }

-- a list and an element that are answered are not empty and end within the string
module _ (s : List ℕ) (at : ℕ) where
  abbrev pub Ends : ℕ → Type 0
  Ends size = (0 < size) × (at + size ≤ length s)

  pub list_ends : ((i : ℕ) → Fits w8 (get_or s i 0)) → (l : ListAt) → list_shown at (value_of (Decode.list (drop at s))) ≡ Some l → Ends l.size
  list_ends b l e = let (a, q, z, w) = there_is list s at b (Some l) l.size (sym e) refl (λ z. cc) in (z, w)

  pub element_ends : ((i : ℕ) → Fits w8 (get_or s i 0)) → (x : ElementAt) → element_shown at (value_of (Decode.element (drop at s))) ≡ Some x → Ends x.size
  element_ends b x e = let (a, q, z, w) = there_is element s at b (Some x) x.size (sym e) refl (λ z. cc) in (z, w)

  pub list_within : (l : ListAt) → Bytes s → list_shown at (value_of (Decode.list (drop at s))) ≡ Some l → at + l.size ≤ length s
  list_within l b e = (list_ends (λ i. record { fits = b i }) l e).1

  pub element_within : (x : ElementAt) → Bytes s → element_shown at (value_of (Decode.element (drop at s))) ≡ Some x → at + x.size ≤ length s
  element_within x b e = (element_ends (λ i. record { fits = b i }) x e).1
