-- Extents: what a function answers of what is read, without the value. What is read some bytes on, what ends a format, and values in a row; and a field that
-- is read, or that does not fit.
use Prim.Native.Nat.{ℕ, ◌+◌, ◌-◌, ◌≤◌, ◌<◌, ◌^◌}
use native.Mathlib.Decide.{dec_le}
use native.Mathlib.Omega.{arith}
use mathlib.Core.Path.{◌≡◌, refl, ap, sym, ◌∙◌}
use mathlib.Core.Bool.{Bool}
use mathlib.Core.List.{List, ◌∷◌}
use lib.ListN.{length, take, drop, length-drop, length-take}
use lib.Dec.{T, leb, lit≤}
use Rattle.field.specs.Field.{field_at, number_at}
use Rattle.field.proofs.Laws.{field_fits, field_outside, number_at_fits, from_offset}
use Rattle.policy_grammar.specs.Format.{Format, done, ◌>>=◌, number}
use Rattle.policy_grammar.specs.Parser.{Read, value, fault, after, continue, exactly, read, filling}
use Rattle.policy_grammar.proofs.Formats.{row, read_then}
use Rattle.policy_grammar.proofs.Faults.{reach, reach_exactly, within}
use Rattle.policy_grammar.proofs.Heads.{Upto, number_short, over, last_read}
use Rattle.policy_grammar.proofs.Heads as Heads
use Rattle.policy_reader.specs.Inner.{Extent, fault_at, extent_of, further, end}
use Rattle.std.specs.Prelude.{Option, Some, Result, Ok, Err, IsErrAnd}
use Rattle.std.specs.Result.{result_ok}
use Rattle.std.proofs.lemmas.Result.{err_from_is_err_and}
use Rattle.field.specs.declared.Fault.{Fault}

-- A FIELD

module _ (s : List ℕ) (at k : ℕ) (t : T (leb 1 k)) (u : T (leb k 8)) (r : Result ℕ Fault) (e : r ≡ field_at s at k) where
  outside : (x : Fault) → r ≡ Err x → (x.at ≡ at) × (length s < at + k)
  outside x q =
      elim (dec_le (at + k) (length s)) [
        | yes p ↦ (let f = field_fits s at k (lit≤ t) (lit≤ u) p in let z : ◌≡◌ {A = ℕ} 0 1 = cc in absurd (omega arith))
        | no n ↦ (let f = field_outside s at k (λ _ _ h. n h) in let i : x ≡ fault_at at = cc in (ap (λ (f : Fault). f.at) i, omega arith))
      ]

  pub fitting : (x : ℕ) → r ≡ Ok x → (x ≡ number_at s at k) × (at + k ≤ length s)
  fitting x q =
      elim (dec_le (at + k) (length s)) [
        | yes p ↦ (let f = field_fits s at k (lit≤ t) (lit≤ u) p in let i = number_at_fits s at k (lit≤ t) (lit≤ u) p in (cc, p))
        | no n ↦ (let f = field_outside s at k (λ _ _ h. n h) in let z : ◌≡◌ {A = ℕ} 0 1 = cc in absurd (omega arith))
      ]

-- a number of a format that does not fit is the fault
pub number_outside : {A : Type 0} (F : Format A) (s : List ℕ) (at k : ℕ) (rule : ℕ → ℕ → Bool) (f : ℕ → Format A) → Upto F s at (number k rule >>= f) → T (leb 1 k) → T (leb k 8)
    → at ≤ length s → (r : Result ℕ Fault) → r ≡ field_at s at k → (x : Fault) → r ≡ Err x → read F s ≡ fault x.at
number_outside F s at k rule f h t u l r e x q =
    let (i, m) = outside s at k t u r e x q in
    number_short F s at k rule f h l m ∙ ap fault (sym i)

-- WHAT IS READ, BY ITS EXTENT

module _ {A : Type 0} where
  pub size_read : (g : Read A) (n : ℕ) → extent_of g ≡ Ok n → (a : A) × (g ≡ value a n)
  size_read (value a k) n e = let z : k ≡ n = cc in (a, ap (value a) z)
  size_read (fault p) n e = let z : ◌≡◌ {A = ℕ} 0 1 = cc in absurd (omega arith)

  pub fault_read : (g : Read A) (f : Fault) → extent_of g ≡ Err f → g ≡ fault f.at
  fault_read (value a k) f e = let z : ◌≡◌ {A = ℕ} 0 1 = cc in absurd (omega arith)
  fault_read (fault q) f e = let z : fault_at q ≡ f = cc in ap (λ (x : Fault). fault x.at) z

  end_is : (g : Read A) → end (extent_of g) ≡ reach g
  end_is (value a n) = refl
  end_is (fault p) = refl

  -- nothing past the string is read
  pub end_within : (F : Format A) (s : List ℕ) (x : Extent) → x ≡ extent_of (read F s) → end x ≤ length s
  end_within F s x e = omega (arith, ap end e, end_is (read F s), within F s)

  end_filling : (F : Format A) (s : List ℕ) (x : Extent) → x ≡ extent_of (filling F s) → end x ≤ length s
  end_filling F s x e = omega (arith, ap end e, end_is (filling F s), reach_exactly (length s) (read F s), within F s)

  -- nor past the part of a string from an offset on
  end_part : (F : Format A) (s : List ℕ) (at k : ℕ) (x : Extent) → x ≡ extent_of (filling F (take k (drop at s))) → end x ≤ length s - at
  end_part F s at k x e = omega (arith, end_filling F (take k (drop at s)) x e, length-take k (drop at s), length-drop at s)

  pub part_fits : (F : Format A) (s : List ℕ) (n at k m : ℕ) (x : Extent) → x ≡ extent_of (filling F (take k (drop at s))) → n ≤ at → at ≤ m → m ≤ length s → length s < 2 ^ 64 → n + end x < 2 ^ 64
  part_fits F s n at k m x e i l u h = omega (arith, end_part F s at k x e)

  pub rest_fits : (F : Format A) (s : List ℕ) (at : ℕ) (x : Extent) → x ≡ extent_of (filling F (take (length s - at) (drop at s))) → at ≤ length s → length s < 2 ^ 64 → at + end x < 2 ^ 64
  rest_fits F s at x e l h = omega (arith, end_part F s at (length s - at) x e)

  pub read_fits : (F : Format A) (s : List ℕ) (at : ℕ) (x : Extent) → x ≡ extent_of (read F (take (length s - at) (drop at s))) → at ≤ length s → length s < 2 ^ 64 → at + end x < 2 ^ 64
  read_fits F s at x e l h = omega (arith, end_within F (take (length s - at) (drop at s)) x e, length-take (length s - at) (drop at s))

  -- what is read at an offset is read at the front of what is left there
  pub read_there : (F : Format A) (s : List ℕ) (at : ℕ) (x : Extent) → x ≡ extent_of (read F (take (length s - at) (drop at s))) → x ≡ extent_of (read F (drop at s))
  read_there F s at x e = e ∙ ap (λ (t : List ℕ). extent_of (read F t)) (from_offset s at)

  -- a fault is one of what fills a string
  pub faulty : (F : Format A) (s : List ℕ) (p : ℕ) → read F s ≡ fault p → Err (fault_at p) ≡ extent_of (filling F s)
  unfolding exactly
  faulty F s p e = rw e

pub further_none : (x : Extent) → further 0 x ≡ x
further_none (Ok n) = ap Ok (omega arith)
further_none (Err f) = ap (λ (n : ℕ). Err (fault_at n)) (omega arith)

pub further_further : (m n : ℕ) (x : Extent) → further m (further n x) ≡ further (m + n) x
further_further m n (Ok k) = ap Ok (omega arith)
further_further m n (Err f) = ap (λ (n : ℕ). Err (fault_at n)) (omega arith)

-- by its cases
pub further_size : (n : ℕ) (x : Extent) (z : ℕ) → further n x ≡ Ok z → (k : ℕ) × (x ≡ Ok k) × (n + k ≡ z)
further_size n (Ok k) z e = (k, refl, cc)
further_size n (Err f) z e = let o : ◌≡◌ {A = ℕ} 0 1 = cc in absurd (omega arith)

pub further_fault : (n : ℕ) (x : Extent) (f : Fault) → further n x ≡ Err f → (p : ℕ) × (x ≡ Err (fault_at p)) × (fault_at (n + p) ≡ f)
further_fault n (Ok k) f e = let o : ◌≡◌ {A = ℕ} 0 1 = cc in absurd (omega arith)
further_fault n (Err g) f e = (g.at, refl, cc)

-- what a `?` returns is the fault that it is handed
pub handed_on : {r : Extent} {f : Fault} {x : Extent} → IsErrAnd r (λ y. y ≡ f) → Err f ≡ x → r ≡ x
handed_on {r} h e = let (y, p, q) = err_from_is_err_and r h in p ∙ ap Err q ∙ e

-- what `ok` gives
pub was_ok : (x : Extent) {o : Option ℕ} {n : ℕ} → o ≡ result_ok x → o ≡ Some n → x ≡ Ok n
was_ok (Ok k) e q = ap Ok cc
was_ok (Err f) e q = cc

-- WHAT ENDS A FORMAT

module _ {A B : Type 0} where
  over_same : (f : B → A) (at : ℕ) (g : Read B) → extent_of (after at (over f g)) ≡ further at (extent_of g)
  unfolding after
  over_same f at (value b n) = refl
  over_same f at (fault p) = refl

  module _ (F : Format A) (s : List ℕ) (at : ℕ) (m : Format B) (f : B → A) (h : Upto F s at (m >>= λ b. done (f b))) where
    pub last_extent : extent_of (read F s) ≡ further at (extent_of (read m (drop at s)))
    last_extent = ap extent_of (last_read F s at m f h) ∙ over_same f at (read m (drop at s))

    pub last_filling : at ≤ length s → extent_of (filling F s) ≡ further at (extent_of (filling m (drop at s)))
    last_filling l = ap extent_of (Heads.last_filling F s at m f h l) ∙ over_same f at (filling m (drop at s))

-- VALUES IN A ROW

module _ {A : Type 0} (m : Format A) (others : Format (List A)) (s : List ℕ) where
  pub row_on : (a : A) (n : ℕ) → read m s ≡ value a n → n ≤ length s → extent_of (filling (row m others) s) ≡ further n (extent_of (filling others (drop n s)))
  unfolding continue
  row_on a n e l = last_filling (row m others) s n others (λ k. a ∷ k) (read_then (λ a. others >>= λ k. done (a ∷ k)) m s ∙ rw e) l

  pub row_stops : (p : ℕ) → read m s ≡ fault p → extent_of (filling (row m others) s) ≡ Err (fault_at p)
  unfolding continue
  row_stops p e = sym (faulty (row m others) s p (read_then (λ a. others >>= λ k. done (a ∷ k)) m s ∙ rw e))
