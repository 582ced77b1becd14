-- The numbers of the fields of a list that stands at the front of a string: those that the string has at the fields' offsets. And the sums that an answer for
-- the list has fit, since the list lies in the string.
use Prim.Native.Nat.{ℕ, ◌+◌, ◌≤◌, ◌<◌, ◌^◌}
use native.Mathlib.Omega.{arith}
use mathlib.Core.Path.{◌≡◌, refl, ap, sym, ◌∙◌}
use mathlib.Core.Logic.{⊎_elim}
use mathlib.Core.List.{List, ◌++◌, flat_map}
use mathlib.Core.Option.{some}
use lib.ListN.{length, get_or, drop, length-append}
use lib.Seq.{drop-drop}
use lib.Dec.{lit≤}
use mir.Val.{Fits}
use mir.Syntax.{w8}
use Rattle.field.specs.Number.{bytes}
use Rattle.field.specs.Field.{number_at}
use Rattle.field.proofs.Laws.{length_bytes}
use Rattle.policy_grammar.specs.Grammar.{element_bytes, Signature, Signing, signing_bytes, ValidSigning, PolicyList, list_bytes, ValidList}
use Rattle.policy_grammar.specs.Grammar as Grammar
use Rattle.policy_grammar.specs.Parser.{value, value_of, read}
use Rattle.policy_grammar.specs.Layout as Layout
use Rattle.policy_grammar.specs.Decode as Decode
use Rattle.policy_grammar.proofs.Soundness.{reads_sound}
use Rattle.policy_grammar.proofs.Decoding.{list_sound}
use Rattle.policy_answers.specs.Answers.{list_shown, signing_shown, list_size}
use Rattle.policy_answers.specs.Types.{ListAnswer, Signed}
use Rattle.policy_reader.specs.Inner.{Extent, extent_of}
use Rattle.policy_reader.specs.Offsets.{StandsAt}
use Rattle.std.specs.Prelude.{Ok, Err, Some, None}
use Rattle.field.specs.declared.Fault.{Fault}
use Rattle.policy_reader.proofs.ReadExtents.{size_read, fault_read}
use Rattle.policy_reader.proofs.ElementNumbers.{stands_number}
use Rattle.policy_reader.proofs.Standing.{list_length}
use Rattle.policy_reader.proofs.Places.{signing_at}

abbrev listed : ℕ → ℕ → ℕ → ℕ → Signed → ListAnswer
listed start size version n g = Some (record { start = start; size = size; version = version; elements = start + 8; elements_size = n; signing = g })

abbrev signing_by : ℕ → ℕ → ℕ → ℕ → Signed
signing_by start n c k = Some (record { counter = c; key_size = k; key = start + (8 + n) + 4; signature = start + (8 + n) + 4 + k })

-- by what signs it: n is its elements size, a its algorithm
module _ (t rest : List ℕ) (start size version n a : ℕ) where
  abbrev Follows : Signing → Type 0
  Follows g = drop (8 + n) t ≡ signing_bytes g ++ rest

  shown_unsigned : (g : Signing) → ValidSigning a g → (a ≡ 0x0014 → ⊥) → size ≡ list_size (signing_shown start version n g) → listed start size version n None ≡ signing_shown start version n g
  shown_unsigned Grammar.unsigned h e q = rw q
  shown_unsigned (Grammar.signed g) h e q = absurd (e h.0)

  module _ (c k : ℕ) (ec : c ≡ number_at t (8 + n) 2) (ek : k ≡ number_at t (8 + n + 2) 2) where
    numbers : (g : Signature) → ValidSigning a (Grammar.signed g) → Follows (Grammar.signed g) → (c ≡ g.counter) × (k ≡ g.key_size)
    unfolding bytes
    numbers g h f = (
      stands_number t (8 + n) 2 g.counter _ (lit≤ tt) (lit≤ tt) f h.1.counter_fits ec,
      stands_number t (8 + n + 2) 2 g.key_size _ (lit≤ tt) (lit≤ tt) (sym (drop-drop 2 (8 + n) t) ∙ ap (drop 2) f)
          (⊎_elim (λ i. omega arith) (λ i. omega arith) h.1.key_size_known) ek,
    )

    shown_signed : (g : Signing) → ValidSigning a g → Follows g → a ≡ 0x0014 → size ≡ list_size (signing_shown start version n g)
        → listed start size version n (signing_by start n c k) ≡ signing_shown start version n g
    shown_signed Grammar.unsigned h f e q = absurd (omega (arith, h))
    shown_signed (Grammar.signed g) h f e q = let (i, j) = numbers g h f in rw (i, j) (ap (λ (z : ℕ). listed start z version n (signing_by start n g.counter g.key_size)) q)

    signed_size : (g : Signing) → ValidSigning a g → Follows g → a ≡ 0x0014 → size ≡ list_size (signing_shown start version n g) → size ≡ 8 + n + 4 + k + k
    signed_size Grammar.unsigned h f e q = absurd (omega (arith, h))
    signed_size (Grammar.signed g) h f e q = let (i, j) = numbers g h f in rw j q

-- a list that stands at the front
pub record ListAtFront (t : List ℕ) (size : ℕ) (l : PolicyList) : Type 0 where
  pub stands : StandsAt list_bytes ValidList t 0 l
  pub long : length (list_bytes l) ≡ size
  pub within : size ≤ length t
  pub version_at : drop 0 t ≡ bytes 2 l.version ++ drop 2 t
  pub algorithm_at : drop 2 t ≡ bytes 2 l.signature_algorithm ++ drop 4 t
  pub size_at : drop 4 t ≡ bytes 4 l.elements_size ++ drop 8 t

at_front : (t : List ℕ) (size : ℕ) (l : PolicyList) → ValidList l × (length (list_bytes l) ≡ size) × (list_bytes l ++ drop size t ≡ t) → ListAtFront t size l
unfolding bytes
at_front t size l (v, e, m) =
    record {
      stands = record { obeys = v; rest = drop size t; stands = sym m };
      long = e;
      within = omega (arith, length-append (list_bytes l) (drop size t), ap length m);
      version_at = rw (← m);
      algorithm_at = rw (← m);
      size_at = rw (← m);
    }

algorithm_fits : (a : ℕ) (g : Signing) → ValidSigning a g → a < 256 ^ 2
algorithm_fits a Grammar.unsigned h = omega (arith, h)
algorithm_fits a (Grammar.signed g) h = omega (arith, h.0)

module _ (t : List ℕ) (start : ℕ) (b : (i : ℕ) → Fits w8 (get_or t i 0)) (w : Extent) (ew : w ≡ extent_of (read Layout.list t)) where
  abbrev shown : ListAnswer
  shown = list_shown start (value_of (Decode.list t))

  pub answers_none : (f : Fault) → w ≡ Err f → None ≡ shown
  answers_none f q = rw (fault_read (read Layout.list t) f (sym ew ∙ q))

  module _ (size : ℕ) (qw : w ≡ Ok size) where
    there : (l : PolicyList) × (Decode.list t ≡ value l size)
    there = size_read (read Layout.list t) size (sym ew ∙ qw)

    abbrev l : PolicyList
    l = there.0

    front : ListAtFront t size l
    front = at_front t size l (reads_sound list_bytes ValidList Layout.list list_sound t l size (λ i. (b i).fits) there.1)

    valid : ValidList l
    valid = front.stands.obeys

    sized : size ≡ list_size (list_shown start (some l))
    sized = sym front.long ∙ sym (list_length start l valid).0

    eight : 8 ≤ length t
    eight =
        let e : length (list_bytes l) ≡ 8 + length (flat_map element_bytes l.elements) + length (signing_bytes l.signing) = simp (length-append, length_bytes) (omega arith) in
        omega (arith, front.within, front.long)

    pub elements_offset_fits : start + length t < 2 ^ 64 → start + 8 < 2 ^ 64
    elements_offset_fits h = omega (arith, eight)

    module _ (version n a : ℕ) (ev : version ≡ number_at t 0 2) (en : n ≡ number_at t 4 4) (ea : a ≡ number_at t 2 2) where
      version_is : version ≡ l.version
      version_is = stands_number t 0 2 l.version _ (lit≤ tt) (lit≤ tt) front.version_at (⊎_elim (λ i. omega arith) (λ i. omega arith) valid.version_known) ev

      n_is : n ≡ l.elements_size
      n_is = stands_number t 4 4 l.elements_size _ (lit≤ tt) (lit≤ tt) front.size_at valid.size_fits en

      a_is : a ≡ l.signature_algorithm
      a_is = stands_number t 2 2 l.signature_algorithm _ (lit≤ tt) (lit≤ tt) front.algorithm_at (algorithm_fits l.signature_algorithm l.signing valid.signing_valid) ea

      signing_valid : ValidSigning a l.signing
      signing_valid = rw a_is valid.signing_valid

      is : signing_shown start version n l.signing ≡ shown
      is = rw (there.1, version_is, n_is)

      size_is : size ≡ list_size (signing_shown start version n l.signing)
      size_is = rw (version_is, n_is) sized

      pub answers_unsigned : (a ≡ 0x0014 → ⊥) → listed start size version n None ≡ shown
      answers_unsigned h = shown_unsigned t front.stands.rest start size version n a l.signing signing_valid h size_is ∙ is

      module _ (q : a ≡ 0x0014) (k : ℕ) (ek : k ≡ number_at t (8 + n + 2) 2) where
        follows : drop (8 + n) t ≡ signing_bytes l.signing ++ front.stands.rest
        follows =
            let i : 0 + (8 + l.elements_size) ≡ 8 + n = omega (arith, n_is) in
            rw i at (signing_at t 0 l front.stands)

        pub answers_signed : (c : ℕ) → c ≡ number_at t (8 + n) 2 → listed start size version n (signing_by start n c k) ≡ shown
        answers_signed c ec = shown_signed t front.stands.rest start size version n a c k ec ek l.signing signing_valid follows q size_is ∙ is

        signed_within : 8 + n + 4 + k + k ≤ length t
        signed_within =
            omega (arith, front.within, signed_size t front.stands.rest start size version n a (number_at t (8 + n) 2) k refl ek l.signing signing_valid follows q size_is)

        module _ (h : start + length t < 2 ^ 64) where
          pub signing_offset_fits : start + (8 + n) < 2 ^ 64
          signing_offset_fits = omega (arith, signed_within)

          pub key_offset_fits : start + (8 + n) + 4 < 2 ^ 64
          key_offset_fits = omega (arith, signed_within)

          pub signature_offset_fits : start + (8 + n) + 4 + k < 2 ^ 64
          signature_offset_fits = omega (arith, signed_within)
