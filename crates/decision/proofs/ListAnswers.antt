-- A list by the answer for it: where its elements stand, which bytes are signed, and that it permits exactly where its counter is reached, its elements
-- permit and its signature verifies.
use Prim.Native.Nat.{ℕ, ◌+◌, ◌-◌, ◌≤◌}
use mathlib.Core.Path.{◌≡◌, refl, ap, sym, ◌∙◌}
use mathlib.Core.Bool.{Bool, true, false, ◌&&◌, and-true}
use mathlib.Core.List.{List, ◌++◌, flat_map, append_assoc}
use native.Mathlib.Omega.{arith}
use lib.Dec.{leb}
use lib.ListN.{length, take, length-append}
use lib.Seq.{take_at}
use Rattle.field.specs.Number.{bytes}
use Rattle.rsa.specs.Rsa.{verifies}
use Rattle.std.specs.Prelude.{Some, None}
use Rattle.policy_answers.specs.Types.{ListAnswer, PartAnswer}
use Rattle.policy_answers.specs.declared.ListAt.{ListAt}
use Rattle.policy_grammar.specs.Grammar.{element_bytes, Signature, Signing, PolicyList, list_bytes}
use Rattle.policy_grammar.specs.Grammar as Grammar
use Rattle.policy_answers.specs.Answers.{signing_shown, elements_of}
use Rattle.policy_answers.specs.Seen.{seen_list, list_part}
use Rattle.policy_reader.proofs.Walk.{list_seen, elements_within, elements_stand}
use Rattle.decision.specs.Lists.{Criteria, elements_permit, signed_bytes, signing_holds, permits}
use Rattle.decision.specs.Meaning.{SignedUpToSignature}
use Rattle.decision.specs.Inner.{reached_seen, verified_in, verified_seen, ElementsStand, ListStands}

-- ITS ELEMENTS

-- they are the elements of x, and stand in s up to their end
pub record Listed (s : List ℕ) (x : PolicyList) (start n : ℕ) : Type 0 where
  pub within : start + n ≤ length s
  pub elements : ElementsStand (take (start + n) s) start x.elements

abbrev part : ℕ → ℕ → PartAnswer
part start len = Some (record { start = start; len = len })

abbrev start_in : PartAnswer → ℕ
start_in None = 0
start_in (Some p) = p.start

abbrev len_in : PartAnswer → ℕ
len_in None = 0
len_in (Some p) = p.len

elements_shown : (start version n : ℕ) (g : Signing) → elements_of (signing_shown start version n g) ≡ part (start + 8) n
elements_shown start version n Grammar.unsigned = refl
elements_shown start version n (Grammar.signed g) = refl

module _ (s : List ℕ) (l : ListAt) (x : PolicyList) (h : ListStands s (Some l) x) where
  elements_at : elements_of (Some l) ≡ part (h.at + 8) x.elements_size
  elements_at = ap elements_of h.shown ∙ elements_shown h.at x.version x.elements_size x.signing

  pub listed : Listed s x l.elements l.elements_size
  listed =
      let e₁ : l.elements ≡ h.at + 8 = ap start_in elements_at in
      let e₂ : l.elements_size ≡ x.elements_size = ap len_in elements_at in
      record {
        within = omega (arith, elements_within s h.at x h.others h.valid h.stand);
        elements =
            record {
              valid = h.valid.0.elements_valid;
              stand = rw (e₁, e₂) (elements_stand s h.at x h.others h.valid h.stand);
            };
      }

  -- WHETHER IT PERMITS, in the order in which it is tried

  reorder : (v r e : Bool) → ((v && r) && e) ≡ (r && (e && v))
  reorder true true e = sym (and-true e)
  reorder true false e = refl
  reorder false true true = refl
  reorder false true false = refl
  reorder false false e = refl

  module _ (k : Criteria) (i : ℕ) where
    abbrev elements : Bool
    elements = elements_permit k x.elements

    abbrev reached : ListAnswer → Bool
    reached None = false
    reached (Some a) = reached_seen (k.counter i) a.signing

    by_signing : (g : Signing)
        → (signing_holds k i x g && elements) ≡ (reached (signing_shown h.at x.version x.elements_size g) && (elements && verified_in (list_part x) g))
    unfolding signed_bytes
    by_signing Grammar.unsigned = sym (and-true elements)
    by_signing (Grammar.signed g) = reorder (verifies g.key g.signature (signed_bytes x g)) (leb (k.counter i) g.counter) elements

    permits_is : permits k i x ≡ (reached_seen (k.counter i) l.signing && (elements && verified_seen (seen_list s (Some l))))
    unfolding permits
    permits_is =
        by_signing x.signing
        ∙ sym
        (ap (λ (a : ListAnswer). reached a && (elements && verified_seen (seen_list s a))) h.shown
        ∙ ap (λ v. reached (signing_shown h.at x.version x.elements_size x.signing) && (elements && verified_seen v))
        (list_seen s h.at x h.others h.valid h.stand))

    module _ (r : Bool) (is : r ≡ reached_seen (k.counter i) l.signing) where
      pub counter_too_low : r ≡ false → false ≡ permits k i x
      counter_too_low e = sym (permits_is ∙ rw (sym is ∙ e))

      pub counter_reached : r ≡ true → (e : Bool) → e ≡ (elements && verified_seen (seen_list s (Some l))) → e ≡ permits k i x
      counter_reached reached e q = sym (permits_is ∙ rw (sym is ∙ reached, ← q))

-- WHAT IS SIGNED

-- all that stands before the signature
abbrev front : PolicyList → Signature → List ℕ
front l g =
    bytes 2 l.version
    ++ (bytes 2 l.signature_algorithm
    ++ (bytes 4 l.elements_size
    ++ (flat_map element_bytes l.elements ++ (bytes 2 g.counter ++ (bytes 2 g.key_size ++ g.key)))))

joined : (a b c d x y z s : List ℕ) → a ++ (b ++ (c ++ (d ++ (x ++ (y ++ (z ++ s)))))) ≡ (a ++ (b ++ (c ++ (d ++ (x ++ (y ++ z)))))) ++ s
joined a b c d x y z s =
    sym
    (append_assoc a _ s
    ∙ ap (λ (r : List ℕ). a ++ r)
    (append_assoc b _ s
    ∙ ap (λ (r : List ℕ). b ++ r)
    (append_assoc c _ s
    ∙ ap (λ (r : List ℕ). c ++ r)
    (append_assoc d _ s ∙ ap (λ (r : List ℕ). d ++ r) (append_assoc x _ s ∙ ap (λ (r : List ℕ). x ++ r) (append_assoc y z s))))))

pub signed_up_to_signature : SignedUpToSignature
unfolding signed_bytes
signed_up_to_signature l g e =
    let f = front l g in
    let s = g.signature in
    let w : list_bytes l ≡ f ++ s =
    rw e
    (joined (bytes 2 l.version) (bytes 2 l.signature_algorithm) (bytes 4 l.elements_size) (flat_map element_bytes l.elements) (bytes 2 g.counter)
    (bytes 2 g.key_size) g.key s)
    in
    let n : length (list_bytes l) - length s ≡ length f = omega (arith, ap length w, length-append f s) in
    let signed : signed_bytes l g ≡ f = ap (λ (k : ℕ). take k (list_bytes l)) n ∙ ap (take (length f)) w ∙ take_at f s (length f) refl in
    w ∙ ap (λ (b : List ℕ). b ++ s) (sym signed)
