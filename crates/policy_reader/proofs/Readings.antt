-- The reading with which a string is accepted is the one from which the grammar makes it, and the place of one that is refused is that of its first fault.
use Prim.Native.Nat.{ℕ, ◌≤◌, ◌<◌}
use native.Mathlib.Omega.{arith}
use mathlib.Core.Path.{◌≡◌, refl, ap, sym, ◌∙◌}
use mathlib.Core.Logic.{◌⊎◌, ⊎_elim}
use mathlib.Core.Bool.{Bool, true, false, cond, and-eq-true_iff}
use mathlib.Core.List.{List}
use mathlib.Core.Option.{Option, some, none}
use lib.ListN.{length, get_or}
use borrow.Author.Tests.{leb-true}
use mir.Val.{Fits}
use mir.Syntax.{w8}
use Rattle.field.specs.Number.{Bytes}
use Rattle.policy_grammar.specs.Grammar.{Reading}
use Rattle.policy_grammar.specs.Sizes.{sized}
use Rattle.policy_grammar.specs.Decode.{reading, accepted, fault_place}
use Rattle.policy_grammar.specs.Parser.{Read, value, fault, value_of, fault_of}
use Rattle.policy_grammar.specs.Layout.{whole}
use Rattle.policy_grammar.specs.Fault.{FirstFaultIn}
use Rattle.policy_grammar.proofs.Faults.{reach, within, one_place, fault_exactly}
use Rattle.policy_grammar.proofs.Decoding.{unique}
use Rattle.policy_answers.specs.Types.{FileAnswer}
use Rattle.policy_answers.specs.Answers.{file_answer}
use Rattle.policy_reader.specs.Readings.{MadeFrom, IsReadingOf, IsPlaceOf, ReadExactly}
use Rattle.policy_reader.proofs.Places.{sized_inside, sized_outside, accepted_sound, accepted_complete}

inside : (s : List ℕ) → sized s ≡ true → (36 ≤ length s) × (length s ≤ 65536)
inside s e = let p = (and-eq-true_iff _ _).0 e in (leb-true _ _ p.0, leb-true _ _ p.1)

pub is_reading : (s : List ℕ) → Bytes s → IsReadingOf s (accepted s)
is_reading s b = record { made = λ h. made h (accepted s) refl; outside = λ u. outside u (accepted s) refl; one = λ r r' m m'. unique r r' s m m' }
  where
    made : length s ≤ 65536 → (o : Option Reading) → accepted s ≡ o → MadeFrom s o
    made h none q = λ r m. (let e : some r ≡ none = sym (accepted_complete r s m h) ∙ q in let z : ◌≡◌ {A = ℕ} 0 1 = cc in omega arith)
    made h (some r) q = (accepted_sound s r b q).0

    outside : (length s < 36) ⊎ (65536 < length s) → (o : Option Reading) → accepted s ≡ o → o ≡ none
    outside u none q = refl
    outside u (some r) q =
        let w = inside s (accepted_sound s r b q).1 in
        absurd (⊎_elim (λ l. omega (arith, w.0)) (λ l. omega (arith, w.1)) u)

-- THE PLACE

module _ (s : List ℕ) where
  pub fault_outside : sized s ≡ false → fault_place s ≡ 0
  unfolding fault_place
  fault_outside e = rw e

  -- where a string of a size that is read has no reading, the place is that of its first fault
  place_first : sized s ≡ true → accepted s ≡ none → FirstFaultIn s (fault_place s)
  unfolding accepted fault_place
  place_first e q = (fault_exactly s (cond (sized s) (fault_of (reading s)) 0)).0 (go (reading s) refl)
    where
      go : (g : Read Reading) → reading s ≡ g → reading s ≡ fault (cond (sized s) (fault_of (reading s)) 0)
      go (value r n) h = let z : some r ≡ none = sym (rw (e, h)) ∙ q in let o : ◌≡◌ {A = ℕ} 0 1 = cc in absurd (omega arith)
      go (fault p) h = h ∙ ap fault (sym (rw (e, h)))

  pub fault_within : fault_place s ≤ 65536
  unfolding fault_place reading whole
  fault_within = go (sized s) refl
    where
      fault_reach : (g : Read Reading) → fault_of g ≤ reach g
      fault_reach (value r n) = omega arith
      fault_reach (fault p) = omega arith

      go : (x : Bool) → sized s ≡ x → cond x (fault_of (reading s)) 0 ≤ 65536
      go true e = omega (arith, (inside s e).1, fault_reach (reading s), within (whole (length s)) s)
      go false e = omega arith

  -- an accepted string has no place
  none_at : (r : Reading) → accepted s ≡ some r → fault_place s ≡ 0
  unfolding accepted fault_place
  none_at r q = go (sized s) (reading s) q
    where
      go : (x : Bool) (g : Read Reading) → cond x (value_of g) none ≡ some r → cond x (fault_of g) 0 ≡ 0
      go true (value a n) h = refl
      go true (fault p) h = let o : ◌≡◌ {A = ℕ} 0 1 = cc in absurd (omega arith)
      go false g h = refl

  pub is_place : IsPlaceOf s (accepted s) (fault_place s)
  is_place = record { first = λ l u q. place_first (sized_inside s l u) q; outside = λ u. fault_outside (sized_outside s u); accepted = none_at; one = one_place s }

pub read_exactly : (s : List ℕ) → ((i : ℕ) → Fits w8 (get_or s i 0)) → (r : FileAnswer) → r ≡ file_answer s → (r ≡ file_answer s) × ReadExactly s r
read_exactly s b r e = (e, record { reading = accepted s; is = is_reading s (λ i. (b i).fits); place = fault_place s; is_place = is_place s; shown = e })
