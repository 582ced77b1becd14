-- What each test of the numbers decides.
use Prim.Native.Nat.{ℕ, ◌%◌, ◌^◌}
use mathlib.Core.Path.{◌≡◌, refl, sym, ◌∙◌}
use mathlib.Core.Bool.{Bool, true, false, ◌&&◌, and-false}
use mathlib.Core.List.{List}
use native.Mathlib.Nat.{mod-lt}
use native.Mathlib.Omega.{arith}
use borrow.Author.Tests.{eq-eqb, ne_eqb, eqb-true, ltb-false}
use lib.Dec.{ltb, eqb}
use lib.ListN.{get_or}
use Rattle.rsa.specs.Words.{value}
use Rattle.rsa.specs.Inner.{matches}
use Rattle.rsa.proofs.Products.{value_low}

pub low_odd : (n : List ℕ) → (get_or n 0 0 % 2 ≡ 0 → ⊥) → value n % 2 ≡ 1
low_odd n h = omega (arith, value_low n)

pub even : (n : List ℕ) (s m : ℕ) → get_or n 0 0 % 2 ≡ 0 → false ≡ matches (value n) s m
unfolding matches
even n s m e = rw (ne_eqb (value n % 2) 1 (λ f. omega (arith, value_low n)))

pub not_below : (n s m : ℕ) → ltb s n ≡ false → false ≡ matches n s m
unfolding matches
not_below n s m e = rw e (sym (and-false (eqb (n % 2) 1)))

-- a remainder is below n, and so is not a number that is not
pub not_above : (n s m : ℕ) → ltb m n ≡ false → false ≡ matches n s m
unfolding matches
not_above n s m e = by (eqb (n % 2) 1) refl
  where
    by : (t : Bool) → eqb (n % 2) 1 ≡ t → false ≡ (t && (ltb s n && eqb (s ^ 65537 % n) m))
    by true f =
        let odd : n % 2 ≡ 1 = eqb-true (n % 2) 1 f in
        rw (ne_eqb (s ^ 65537 % n) m (λ g. omega (arith, mod-lt (s ^ 65537) {m = n} (omega arith), ltb-false m n e))) (sym (and-false (ltb s n)))
    by false f = refl

pub compared : (n s m v : ℕ) (r : Bool) → n % 2 ≡ 1 → ltb s n ≡ true → v ≡ s ^ 65537 % n → r ≡ eqb v m → r ≡ matches n s m
unfolding matches
compared n s m v r odd l e f = f ∙ rw (eq-eqb (n % 2) 1 odd, l, e)
