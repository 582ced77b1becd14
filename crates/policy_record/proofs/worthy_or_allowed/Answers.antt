-- `worthy_or_allowed` meets its contract: a number shifted to the right and masked holds the bits that the rule names.
use Prim.Native.Nat.{ℕ, zero, suc, ◌/◌, ◌%◌, ◌^◌}
use mathlib.Core.Path.{◌≡◌, refl, ◌∙◌}
use mathlib.Core.Logic.{◌⊎◌, inl, inr, ⊎_elim}
use native.Mathlib.Omega.{arith}
use borrow.Author.Tests.{eqb-true, eqb-false}
use lib.Bits.{bit_and, and_mask}
use Rattle.rules.proofs.Tests.{holds, agrees}
use Rattle.policy_record.specs.Meaning.{Bit}
use Rattle.policy_record.proofs.Conditions.{worthy_or_allowed_exactly}
use Rattle.policy_record.proofs.worthy_or_allowed.Goals as goal

high : (y z : ℕ) → z ≡ y / 2 → y % 2 ≡ 0 → (y % 4 ≡ 0 → ⊥) → z % 2 ≡ 1
high y z d e h = omega arith

-- where the two bits are not both 0, one of them is 1
one_is_set : (x : ℕ) → (bit_and (x / 2 ^ 14) 3 ≡ 0 → ⊥) → (Bit 14 x) ⊎ (Bit 15 x)
one_is_set x h = go (x / 2 ^ 14 % 2) refl
  where
    go : (b : ℕ) → x / 2 ^ 14 % 2 ≡ b → (Bit 14 x) ⊎ (Bit 15 x)
    go zero e =
        let half : x / 2 ^ 15 ≡ x / 2 ^ 14 / 2 = omega arith in
        inr (high (x / 2 ^ 14) _ half e (λ z. h (and_mask (x / 2 ^ 14) 2 ∙ z)))
    go (suc zero) e = inl e
    go (suc (suc b)) e = absurd (omega arith)

pub returns-then-flags-eq0 : goal.returns-then-flags-eq0
returns-then-flags-eq0 c =
    let high = and_mask (c.args.flags / 2 ^ 14) 2 in
    holds (worthy_or_allowed_exactly _ _) (λ h. absurd (⊎_elim (λ b. omega arith) (λ b. omega arith) h))

pub returns : goal.returns
returns c =
    let low = and_mask (c.number_or_zero.result / 2) 1 in
    agrees _ (worthy_or_allowed_exactly _ _)
    (λ e h. omega (arith, eqb-true))
    (λ e h. omega (arith, eqb-false, h (one_is_set _ c.if-flags-eq0.false)))
