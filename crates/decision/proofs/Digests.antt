-- The digests of an element, one after the other in its body: one of them is the digest that is looked for, or one of those that are left.
use Prim.Native.Nat.{ℕ, zero, suc, ◌+◌, ◌*◌, ◌-◌, ◌≤◌, ◌<◌}
use mathlib.Core.Path.{◌≡◌, refl, sym, ◌∙◌}
use mathlib.Core.Bool.{Bool, true, false}
use mathlib.Core.List.{List}
use native.Mathlib.Omega.{arith}
use lib.Dec.{lit<}
use lib.ListN.{length, drop}
use lib.Seq.{drop-drop}
use Rattle.field.specs.Field.{same, marked_at}
use Rattle.policy_answers.specs.Seen.{pieces}
use Rattle.rules.specs.Tests.{any}
use Rattle.field.proofs.Laws.{marked_same}

unfoldable pub named_from : List ℕ → List ℕ → ℕ → ℕ → Bool
named_from digest b at left = any (same digest) (pieces left 32 (drop at b))

pub named_start : (digest b : List ℕ) (start count : ℕ) → named_from digest b start count ≡ named_from digest b (start + 32 * 0) (count - 0)
named_start digest b start count =
    let e₁ : start + 32 * 0 ≡ start = omega arith in
    let e₂ : count - 0 ≡ count = omega arith in
    rw (e₁, e₂)

module _ (digest b : List ℕ) (start count k : ℕ) (inv : named_from digest b start count ≡ named_from digest b (start + 32 * k) (count - k)) where
  module _ (r : Bool) (l : length digest ≡ 32) (z : k < count) (e : r ≡ marked_at b (start + 32 * k) digest) where
    pub first_is : r ≡ true → true ≡ any (same digest) (pieces count 32 (drop start b))
    unfolding named_from pieces
    first_is h = sym (inv ∙ go (count - k) (omega arith))
      where
        go : (n : ℕ) → 0 < n → named_from digest b (start + 32 * k) n ≡ true
        go zero z = absurd (omega arith)
        go (suc n) z = rw (sym (marked_same b (start + 32 * k) digest 32 l (lit< tt)) ∙ sym e ∙ h)

    pub first_is_not : r ≡ false → named_from digest b start count ≡ named_from digest b (start + 32 * (k + 1)) (count - (k + 1))
    unfolding named_from pieces
    first_is_not h = inv ∙ go (count - k) refl
      where
        go : (n : ℕ) → count - k ≡ n → named_from digest b (start + 32 * k) n ≡ named_from digest b (start + 32 * (k + 1)) (count - (k + 1))
        go zero q = absurd (omega arith)
        go (suc n) q =
            let e₁ : start + 32 * (k + 1) ≡ start + 32 * k + 32 = omega arith in
            let e₂ : count - (k + 1) ≡ n = omega arith in
            rw (e₁, e₂, sym (marked_same b (start + 32 * k) digest 32 l (lit< tt)) ∙ sym e ∙ h, drop-drop 32 (start + 32 * k) b)

  pub none_left : count ≤ k → false ≡ any (same digest) (pieces count 32 (drop start b))
  unfolding named_from pieces
  none_left h = let e : count - k ≡ 0 = omega arith in sym (inv ∙ rw e)
