-- Numbers of as many words: the highest word in which they differ decides which is less, and words that differ make the numbers differ.
use Prim.Native.Nat.{ℕ, zero, suc, ◌+◌, ◌*◌, ◌-◌, ◌≤◌, ◌<◌}
use mathlib.Core.Path.{◌≡◌, refl, ap, sym, ◌∙◌}
use mathlib.Core.List.{List, [], ◌∷◌}
use native.Mathlib.Nat.{mul-le-mul_left}
use native.Mathlib.Omega.{arith}
use lib.ListN.{length, take, get_or}
use lib.Seq.{length-take-le}
use mathlib.Core.Bool.{Bool}
use mathlib.Core.Logic.{inl, inr}
use native.Mathlib.Nat.{le_of_lt}
use borrow.Author.Tests.{lt-ltb, le-ltb}
use lib.Dec.{ltb, eqb}
use Rattle.std.proofs.Common.{ext_get_or}
use Rattle.std.specs.Cmp.Lexicographic.{pointwise}
use Rattle.std.proofs.lemmas.Bool.{cases_lt}
use Rattle.std.proofs.lemmas.Bool.Decides.{Decides-eqb, same_from_decides}
use Rattle.std.proofs.lemmas.Slice.Eq.{slice_eq-Decides}
use Rattle.rsa.specs.Words.{value, power}
use Rattle.rsa.proofs.Values.{Words, words_take, value_below, prefix_more, whole}

prefix_below : (l : List ℕ) (j : ℕ) → Words l → j ≤ length l → value (take j l) < power j
prefix_below l j w h = rw (length-take-le j l h) at (value_below (take j l) (words_take j l w))

decided : (p q pw x y : ℕ) → p < pw → x < y → p + pw * x < q + pw * y
decided p q pw x y h k = omega (arith, mul-le-mul_left {m = x + 1} {n = y} pw (omega arith))

-- the words from place j on are the same in both, so that the numbers differ by what the words below differ
abbrev pub Alike : List ℕ → List ℕ → ℕ → Type 0
Alike a b j = value a + value (take j b) ≡ value b + value (take j a)

pub alike_start : (a b : List ℕ) → length b ≡ length a → Alike a b (length a)
alike_start a b e = rw (whole a (length a) (omega arith), whole b (length a) (omega arith)) (omega arith)

pub alike_end : (a b : List ℕ) (j : ℕ) → j ≤ 0 → Alike a b j → value b ≤ value a
unfolding value
alike_end a b zero h e = omega arith
alike_end a b (suc j) h e = absurd (omega arith)

module _ (a b : List ℕ) (j : ℕ) (pos : 0 < j) (within : j ≤ length a) (same : length b ≡ length a) (alike : Alike a b j) where
  words_at_lem : (l : List ℕ) → j ≤ length l → value (take j l) ≡ value (take (j - 1) l) + power (j - 1) * get_or l (j - 1) 0
  words_at_lem l h =
      let e : j ≡ j - 1 + 1 = omega arith in
      ap (λ (k : ℕ). value (take k l)) e ∙ prefix_more l (j - 1) (omega arith)

  alike_less : Words a → get_or a (j - 1) 0 < get_or b (j - 1) 0 → value a < value b
  alike_less w h =
      omega (
        arith,
        words_at_lem a within,
        words_at_lem b (omega arith),
        decided (value (take (j - 1) a)) (value (take (j - 1) b)) (power (j - 1)) (get_or a (j - 1) 0) (get_or b (j - 1) 0) (prefix_below a (j - 1) w (omega arith)) h,
      )

  alike_more : Words b → get_or b (j - 1) 0 < get_or a (j - 1) 0 → value b < value a
  alike_more w h =
      omega (
        arith,
        words_at_lem a within,
        words_at_lem b (omega arith),
        decided (value (take (j - 1) b)) (value (take (j - 1) a)) (power (j - 1)) (get_or b (j - 1) 0) (get_or a (j - 1) 0) (prefix_below b (j - 1) w (omega arith)) h,
      )

  -- a difference decides
  pub alike_differ : Words a → Words b → (get_or a (j - 1) 0 ≡ get_or b (j - 1) 0 → ⊥) → ltb (get_or a (j - 1) 0) (get_or b (j - 1) 0) ≡ ltb (value a) (value b)
  alike_differ v w n =
      elim (cases_lt (get_or a (j - 1) 0) (get_or b (j - 1) 0)) [
        | inl lt ↦ lt-ltb _ _ lt ∙ sym (lt-ltb _ _ (alike_less v lt))
        | inr ge ↦ le-ltb _ _ ge ∙ sym (le-ltb _ _ (le_of_lt (alike_more w (omega arith))))
      ]

  pub alike_next : get_or a (j - 1) 0 ≡ get_or b (j - 1) 0 → Alike a b (j - 1)
  alike_next e =
      let f = ap (λ (x : ℕ). power (j - 1) * x) e in
      omega (arith, words_at_lem a within, words_at_lem b (omega arith), f)

-- the number determines the words
word_unique : (a b : List ℕ) → Words a → Words b → length b ≡ length a → value a ≡ value b → (i : ℕ) → get_or a i 0 ≡ get_or b i 0
unfolding value
word_unique [] [] v w l e i = refl
word_unique [] (y ∷ b) v w l e i = absurd (omega arith)
word_unique (x ∷ a) [] v w l e i = absurd (omega arith)
word_unique (x ∷ a) (y ∷ b) v w l e zero = omega (arith, v 0, w 0)
word_unique (x ∷ a) (y ∷ b) v w l e (suc i) =
    word_unique a b (λ j. v (suc j)) (λ j. w (suc j)) (omega arith) (omega (arith, v 0, w 0)) i

pub words_same : (a b : List ℕ) (r : Bool) → Words a → Words b → length b ≡ length a → r ≡ pointwise eqb a b → r ≡ eqb (value a) (value b)
words_same a b r v w l e =
    let d = Decides-eqb (value a) (value b) in
    same_from_decides r (eqb (value a) (value b)) (slice_eq-Decides Decides-eqb a b r e)
    (λ t. ext_get_or 0 a b (sym l) (λ i h. word_unique a b v w l (d.0 t) i), λ p. d.1 (ap value p))
