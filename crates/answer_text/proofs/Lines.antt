-- Text in arrays: digits that a loop puts in from the last to the first, and text that a loop puts behind other text.
use Prim.Native.Nat.{ℕ, zero, suc, ◌-◌, ◌/◌, ◌%◌, ◌^◌, ◌<◌, ◌≤◌}
use mathlib.Core.Path.{◌≡◌, sym, ◌∙◌, ap, ap₂}
use mathlib.Core.List.{List, [], ◌∷◌, ◌++◌, append_assoc, append-nil}
use native.Mathlib.Numerals.{sub-one}
use native.Mathlib.Nat.{pow-suc, div-lt_iff_lt-mul}
use native.Mathlib.Omega.{arith}
use borrow.Author.Tests.{lt-ltb, le-ltb, eq-eqb, ne_eqb}
use lib.ListN.{length, drop, set}
use lib.Seq.{drop-cons, drop-set-lt, get_or-set_same, lt-length-set, append_snoc}
use Rattle.answer.specs.declared.Answer.{Answer}
use Rattle.answer_text.specs.Text.{LF, digit, hex_digit, digits, decimal, hex, permitted_text, list_text, refused_text, at_text, not_of_grammar, refused_line, first_line}

-- DIGITS, FROM THE LAST TO THE FIRST

-- an element that is put in, and those behind it
drop_set : (s : List ℕ) (k x : ℕ) → k < length s → drop k (set s k x) ≡ x ∷ drop (suc k) s
drop_set s k x h =
    drop-cons (set s k x) k 0 (lt-length-set s k x h)
    ∙ ap₂ (λ (y : ℕ) (t : List ℕ). y ∷ t) (get_or-set_same s k x 0 h) (drop-set-lt (suc k) s k x (omega arith))

-- the same behind other elements
before : (l s : List ℕ) (k x : ℕ) → k < length s → l ++ drop k (set s k x) ≡ l ++ (x ∷ []) ++ drop (suc k) s
before l s k x h = ap (λ (t : List ℕ). l ++ t) (drop_set s k x h) ∙ sym (append_snoc l x (drop (suc k) s))

-- a number of two digits or more has two places or more, and its tenth one place less
pub tenth : (at n : ℕ) → n < 10 ^ at → 10 ≤ n → (2 ≤ at) × (n / 10 < 10 ^ (at - 1))
tenth zero n h l = absurd (omega arith)
tenth (suc zero) n h l = absurd (omega arith)
tenth (suc (suc k)) n h l = (omega arith, simp sub-one ((div-lt_iff_lt-mul {k = 10} {x = n} {y = 10 ^ suc k} (omega arith)).1 (rw pow-suc at h)))

module _ (s : List ℕ) where
  -- the last digit of two or more, the only digit, and the last digit of an address
  pub digits_step : (at n x : ℕ) → 1 ≤ at → at ≤ length s → 10 ≤ n → x ≡ digit (n % 10)
      → digits (at - 1) (n / 10) ++ drop (at - 1) (set s (at - 1) x) ≡ digits at n ++ drop at s
  unfolding digits
  digits_step zero n x p h l e = absurd (omega arith)
  digits_step (suc k) n x p h l e = rw sub-one (before (digits k (n / 10)) s k x (omega arith) ∙ rw (le-ltb n 10 l, e))

  pub digits_end : (at n x : ℕ) → 1 ≤ at → at ≤ length s → n < 10 → x ≡ digit n → drop (at - 1) (set s (at - 1) x) ≡ digits at n ++ drop at s
  unfolding digits
  digits_end zero n x p h l e = absurd (omega arith)
  digits_end (suc k) n x p h l e = rw sub-one (drop_set s k x (omega arith) ∙ rw (lt-ltb n 10 l, e))

  pub hex_step : (at n x : ℕ) → 1 ≤ at → at ≤ length s → x ≡ hex_digit (n % 16)
      → hex (at - 1) (n / 16) ++ drop (at - 1) (set s (at - 1) x) ≡ hex at n ++ drop at s
  unfolding hex
  hex_step zero n x p h e = absurd (omega arith)
  hex_step (suc k) n x p h e = rw sub-one (before (hex k (n / 16)) s k x (omega arith) ∙ rw e)

-- the first line, piece by piece
module _ (a : Answer) where
  pub permitted_said : {l₀ l₁ l₂ l₃ l₄ l₅ : List ℕ} → a.number ≡ 0
      → l₀ ≡ [] → l₁ ≡ l₀ ++ permitted_text → l₂ ≡ l₁ ++ decimal a.pages
      → l₃ ≡ l₂ ++ list_text → l₄ ≡ l₃ ++ decimal a.list → l₅ ≡ l₄ ++ (LF ∷ []) → l₅ ≡ first_line a
  unfolding first_line
  permitted_said n e₀ e₁ e₂ e₃ e₄ e₅ = rw (eq-eqb a.number 0 n, e₅, e₄, e₃, e₂, e₁, e₀)

  pub refused_said : {l : List ℕ} → (a.number ≡ 0 → ⊥) → l ≡ refused_line a → l ≡ first_line a
  unfolding first_line
  refused_said n e = rw (ne_eqb a.number 0 n) e

  -- the line of a refusal, as far as its number
  abbrev numbered : List ℕ
  numbered = refused_text ++ decimal a.number

  pub placed_said : {l₀ l₁ l₂ l₃ l₄ l₅ : List ℕ} → a.number ≡ not_of_grammar
      → l₀ ≡ [] → l₁ ≡ l₀ ++ refused_text → l₂ ≡ l₁ ++ decimal a.number
      → l₃ ≡ l₂ ++ at_text → l₄ ≡ l₃ ++ decimal a.place → l₅ ≡ l₄ ++ (LF ∷ []) → l₅ ≡ refused_line a
  unfolding refused_line
  placed_said n e₀ e₁ e₂ e₃ e₄ e₅ =
      rw (eq-eqb a.number not_of_grammar n, e₅, e₄, e₃, e₂, e₁, e₀)
      (ap (λ (t : List ℕ). t ++ (LF ∷ [])) (append_assoc numbered at_text (decimal a.place)))

  pub number_said : {l₀ l₁ l₂ l₃ : List ℕ} → (a.number ≡ not_of_grammar → ⊥)
      → l₀ ≡ [] → l₁ ≡ l₀ ++ refused_text → l₂ ≡ l₁ ++ decimal a.number → l₃ ≡ l₂ ++ (LF ∷ []) → l₃ ≡ refused_line a
  unfolding refused_line
  number_said n e₀ e₁ e₂ e₃ =
      rw (ne_eqb a.number not_of_grammar n, e₃, e₂, e₁, e₀) (ap (λ (t : List ℕ). t ++ (LF ∷ [])) (sym (append-nil numbered)))
