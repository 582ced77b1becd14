-- A test of some number below a bound.
use Prim.Native.Nat.{ℕ, zero, suc, ◌<◌}
use mathlib.Core.Path.{◌≡◌, sym}
use mathlib.Core.Logic.{⊎_elim}
use mathlib.Core.Bool.{Bool, true, true≢false, or-true}
use native.Mathlib.Nat.{eq-or-lt_of_le}
use native.Mathlib.Omega.{arith}
use Rattle.rules.proofs.Tests.{either}
use Rattle.sinit.specs.Rules.{some_below}

-- some number below n passes a test
pub record Found (p : ℕ → Bool) (n : ℕ) : Type 0 where
  pub index : ℕ
  pub below : index < n
  pub passes : p index ≡ true

pub found : (p : ℕ → Bool) (n : ℕ) → some_below p n ≡ true → Found p n
unfolding some_below
found p zero e = absurd (true≢false (sym e))
found p (suc n) e =
    ⊎_elim
    (λ s. let f = found p n s in record { index = f.index; below = omega arith; passes = f.passes })
    (λ s. record { index = n; below = omega arith; passes = s })
    (either (some_below p n) (p n) e)

pub finds : (p : ℕ → Bool) (n i : ℕ) → i < n → p i ≡ true → some_below p n ≡ true
unfolding some_below
finds p zero i h e = absurd (omega arith)
finds p (suc n) i h e =
    ⊎_elim
    (λ z. rw (← z, e, or-true (some_below p i)))
    (λ l. rw (finds p n i l e))
    (eq-or-lt_of_le {n = i} {m = n} (omega arith))
