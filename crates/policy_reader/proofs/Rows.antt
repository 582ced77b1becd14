-- Values in a row, by the loop that goes through them: elements as long as bytes are left, and so many lists. What has been read, with what is left to read,
-- is what the whole gives.
use Prim.Native.Nat.{ℕ, zero, suc, ◌+◌, ◌-◌, ◌≤◌, ◌<◌, ◌^◌}
use native.Mathlib.Omega.{arith}
use mathlib.Core.Path.{◌≡◌, refl, ap, sym, ◌∙◌}
use mathlib.Core.Bool.{Bool, cond}
use mathlib.Core.List.{List, []}
use lib.ListN.{length, get_or, drop, length-drop, drop_of_length-le}
use lib.Seq.{drop-drop}
use borrow.Author.Tests.{eq-eqb, ne_eqb}
use mir.Val.{Fits}
use mir.Syntax.{w8}
use Rattle.field.specs.Number.{Bytes}
use Rattle.field.proofs.Laws.{bytes_drop}
use Rattle.policy_grammar.specs.Format.{Format, done, times, many}
use Rattle.policy_grammar.specs.Parser.{Read, value, fault, exactly, read, filling}
use Rattle.policy_grammar.specs.Layout as Layout
use Rattle.policy_grammar.specs.Grammar.{Element, element_bytes, ValidElement, PolicyList}
use Rattle.policy_grammar.proofs.Formats.{row, read_stands}
use Rattle.policy_grammar.proofs.Soundness.{reads_sound}
use Rattle.policy_grammar.proofs.Decoding.{element_sound, element_length}
use Rattle.policy_reader.specs.Inner.{Extent, fault_at, extent_of, further, end}
use Rattle.std.specs.Prelude.{Ok, Err}
use Rattle.field.specs.declared.Fault.{Fault}
use Rattle.policy_reader.proofs.ReadExtents.{end_within, size_read, fault_read, further_size, further_fault, further_none, further_further, row_on, row_stops}

-- what the whole of a string gives is what the rest gives, so many bytes on
abbrev Rest : {A B : Type 0} → Format A → List ℕ → ℕ → Format B → Type 0
Rest F t at G = extent_of (filling F t) ≡ further at (extent_of (filling G (drop at t)))

rest_start : {A : Type 0} (F : Format A) (t : List ℕ) → Rest F t 0 F
rest_start F t = sym (further_none (extent_of (filling F t)))

-- what is read at an offset, r bytes of the whole on
module _ {A : Type 0} (m : Format A) (t : List ℕ) (at : ℕ) (x : Extent) (ex : x ≡ extent_of (read m (drop at t))) where
  pub row_fits : at ≤ length t → length t < 2 ^ 64 → at + end x < 2 ^ 64
  row_fits l h = omega (arith, end_within m (drop at t) x ex, length-drop at t)

  module _ (r : Extent) (er : r ≡ further at x) where
    value_there : (z : ℕ) → r ≡ Ok z → (a : A) × (n : ℕ) × (read m (drop at t) ≡ value a n) × (at + n ≡ z)
    value_there z q =
        let (n, e, i) = further_size at x z (sym er ∙ q) in
        let (a, w) = size_read (read m (drop at t)) n (sym ex ∙ e) in
        (a, n, w, i)

    fault_there : (f : Fault) → r ≡ Err f → (p : ℕ) × (read m (drop at t) ≡ fault p) × (fault_at (at + p) ≡ f)
    fault_there f q =
        let (p, e, i) = further_fault at x f (sym er ∙ q) in
        (p, fault_read (read m (drop at t)) (fault_at p) (sym ex ∙ e), i)

    -- it is within the string
    pub row_within : (z : ℕ) → r ≡ Ok z → at ≤ length t → z ≤ length t
    row_within z q l =
        let (n, e, i) = further_size at x z (sym er ∙ q) in
        omega (arith, ap end e, end_within m (drop at t) x ex, length-drop at t)

-- a row of values at an offset: one is read and the others follow it, or its fault is one of the whole
module _ {A B : Type 0} (F : Format B) (m : Format A) (others G : Format (List A)) (t : List ℕ) (at : ℕ) (is_row : filling G (drop at t) ≡ filling (row m others) (drop at t)) (r : Rest F t at G) where
  rest_on : (a : A) (n : ℕ) → read m (drop at t) ≡ value a n → Rest F t (at + n) others
  rest_on a n e =
      let (l, st) = read_stands m (drop at t) a n e in
      r ∙ ap (λ (g : Read (List A)). further at (extent_of g)) is_row ∙ ap (further at) (row_on m others (drop at t) a n e l)
      ∙ further_further at n (extent_of (filling others (drop n (drop at t)))) ∙ ap (λ (s : List ℕ). further (at + n) (extent_of (filling others s))) (drop-drop n at t)

  rest_stops : (p : ℕ) → read m (drop at t) ≡ fault p → Err (fault_at (at + p)) ≡ extent_of (filling F t)
  rest_stops p e =
      sym (r ∙ ap (λ (g : Read (List A)). further at (extent_of g)) is_row ∙ ap (further at) (row_stops m others (drop at t) p e))

-- elements
element_positive : (s : List ℕ) (e : Element) (n : ℕ) → Bytes s → read Layout.element s ≡ value e n → 0 < n
element_positive s e n b q = omega (arith, (reads_sound element_bytes ValidElement Layout.element element_sound s e n b q).1, element_length e)

-- some number of bytes, and so of elements, may be left
abbrev pub Elements : List ℕ → ℕ → Type 0
Elements t at = (k : ℕ) × (length t ≤ at + k) × Rest (many (length t) Layout.element) t at (many k Layout.element)

pub elements_start : (t : List ℕ) → Elements t 0
elements_start t = (length t, omega arith, rest_start (many (length t) Layout.element) t)

module _ (t : List ℕ) (b : (i : ℕ) → Fits w8 (get_or t i 0)) (at : ℕ) (h : at < length t) (x : Extent) (ex : x ≡ extent_of (read Layout.element (drop at t))) (r : Extent) (er : r ≡ further at x) where
  more : (k : ℕ) → filling (many (suc k) Layout.element) (drop at t) ≡ filling (row Layout.element (many k Layout.element)) (drop at t)
  unfolding many read
  more k =
      ap (λ (x : Bool). exactly (length (drop at t)) (read (cond x (done []) (row Layout.element (many k Layout.element))) (drop at t)))
      (ne_eqb (length (drop at t)) 0 (λ e. omega (arith, length-drop at t)))

  there : (z : ℕ) → r ≡ Ok z → (e : Element) × (n : ℕ) × (read Layout.element (drop at t) ≡ value e n) × (at + n ≡ z) × (0 < n)
  there z q =
      let (e, n, w, i) = value_there Layout.element t at x ex r er z q in
      (e, n, w, i, element_positive (drop at t) e n (bytes_drop at t (λ i. (b i).fits)) w)

  pub elements_on : (z : ℕ) → r ≡ Ok z → Elements t at → Elements t z
  elements_on z q (zero, l, g) = absurd (omega arith)
  elements_on z q (suc k, l, g) =
      let (e, n, w, i, p) = there z q in
      rw (← i) (k, omega arith, rest_on (many (length t) Layout.element) Layout.element (many k Layout.element) (many (suc k) Layout.element) t at (more k) g e n w)

  pub elements_stop : (f : Fault) → r ≡ Err f → Elements t at → Err f ≡ extent_of (filling (many (length t) Layout.element) t)
  elements_stop f q (zero, l, g) = absurd (omega arith)
  elements_stop f q (suc k, l, g) =
      let (p, w, i) = fault_there Layout.element t at x ex r er f q in
      ap Err (sym i) ∙ rest_stops (many (length t) Layout.element) Layout.element (many k Layout.element) (many (suc k) Layout.element) t at (more k) g p w

  pub elements_less : (z : ℕ) → r ≡ Ok z → length t - z < length t - at
  elements_less z q = let (e, n, w, i, p) = there z q in omega arith

no_more : (k : ℕ) → extent_of (filling (many k Layout.element) []) ≡ Ok 0
unfolding many read exactly
no_more zero = refl
no_more (suc k) = refl

pub elements_end_lem : (t : List ℕ) (at : ℕ) → length t ≤ at → Elements t at → Ok at ≡ extent_of (filling (many (length t) Layout.element) t)
elements_end_lem t at h (k, l, r) =
    sym (r ∙ rw (drop_of_length-le t h, no_more k) (ap Ok (omega arith)))

-- lists, of which k have been read
abbrev pub Lists : List ℕ → ℕ → ℕ → ℕ → Type 0
Lists t n at k = Rest (times n Layout.list) t at (times (n - k) Layout.list)

pub lists_start : (t : List ℕ) (n : ℕ) → Lists t n 0 0
lists_start t n = let i : n - 0 ≡ n = omega arith in rw i (rest_start (times n Layout.list) t)

module _ (t : List ℕ) (n at k : ℕ) (h : k < n) (g : Lists t n at k) (x : Extent) (ex : x ≡ extent_of (read Layout.list (drop at t))) (r : Extent) (er : r ≡ further at x) where
  another : filling (times (n - k) Layout.list) (drop at t) ≡ filling (row Layout.list (times (n - (k + 1)) Layout.list)) (drop at t)
  unfolding times
  another = let i : n - k ≡ suc (n - (k + 1)) = omega arith in rw i

  pub lists_on : (z : ℕ) → r ≡ Ok z → Lists t n z (k + 1)
  lists_on z q =
      let (l, m, e, i) = value_there Layout.list t at x ex r er z q in
      rw (← i) (rest_on (times n Layout.list) Layout.list (times (n - (k + 1)) Layout.list) (times (n - k) Layout.list) t at another g l m e)

  pub lists_stop : (f : Fault) → r ≡ Err f → Err f ≡ extent_of (filling (times n Layout.list) t)
  lists_stop f q =
      let (p, e, i) = fault_there Layout.list t at x ex r er f q in
      ap Err (sym i) ∙ rest_stops (times n Layout.list) Layout.list (times (n - (k + 1)) Layout.list) (times (n - k) Layout.list) t at another g p e

module _ (t : List ℕ) (n at k : ℕ) (h : n ≤ k) (r : Lists t n at k) where
  all_read : extent_of (filling (times n Layout.list) t) ≡ further at (extent_of (exactly {A = List PolicyList} (length (drop at t)) (value [] 0)))
  unfolding times read
  all_read = let i : n - k ≡ 0 = omega arith in rw i at r

  pub lists_extra : at < length t → Err (fault_at at) ≡ extent_of (filling (times n Layout.list) t)
  unfolding exactly
  lists_extra l = sym (all_read ∙ rw (ne_eqb 0 (length (drop at t)) (λ e. omega (arith, length-drop at t))) (ap (λ (n : ℕ). Err (fault_at n)) (omega arith)))

  pub lists_end : length t ≤ at → Ok at ≡ extent_of (filling (times n Layout.list) t)
  unfolding exactly
  lists_end l = sym (all_read ∙ rw (eq-eqb 0 (length (drop at t)) (omega (arith, length-drop at t))) (ap Ok (omega arith)))
