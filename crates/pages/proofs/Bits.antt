-- The reserved bits of an entry: a run of bits is 0 as a number exactly where each of them is 0.
use Prim.Native.Nat.{ℕ, zero, suc, ◌+◌, ◌-◌, ◌*◌, ◌/◌, ◌%◌, ◌^◌, ◌<◌}
use mathlib.Core.Path.{◌≡◌, ◌∙◌, ap, refl, sym}
use mathlib.Core.Logic.{◌↔◌}
use mathlib.Core.Bool.{true}
use native.Mathlib.Nat.{add-zero, pow-suc}
use native.Mathlib.Omega.{arith}
use lib.Arith.{mod-mul}
use lib.Pow.{pow_pos, shr-shr}
use lib.Dec.{lit<}
use borrow.Author.Tests.{eqb-true, eq-eqb}
use Rattle.rules.proofs.Tests.{and_exactly}
use Rattle.pages.specs.declared.Kind.{Kind}
use Rattle.pages.specs.declared.Kind.TheVariants.{Pointer, Directory, Page}
use Rattle.pages.specs.Entry.{zeros, reserved_clear}
use Rattle.pages.specs.Meaning.{bit_of, ZeroBits, Reserved}

-- the n + 1 bits from k on: the lowest, and n more
halves : (e k n : ℕ) → e / 2 ^ k % 2 ^ suc n ≡ (e / 2 ^ (k + 1) % 2 ^ n) * 2 + bit_of e k
halves e k n =
    ap (λ (p : ℕ). e / 2 ^ k % p) (pow-suc 2 n)
    ∙ mod-mul (e / 2 ^ k) (pow_pos n) (lit< tt)
    ∙ ap (λ (x : ℕ). (x % 2 ^ n) * 2 + bit_of e k) (shr-shr e k 1)

each_zero : (n e k : ℕ) → e / 2 ^ k % 2 ^ n ≡ 0 → (i : ℕ) → i < n → bit_of e (k + i) ≡ 0
each_zero zero e k z i h = absurd (omega arith)
each_zero (suc n) e k z zero h = ap (bit_of e) (add-zero k) ∙ omega (arith, halves e k n)
each_zero (suc n) e k z (suc i) h =
    let q : k + suc i ≡ k + 1 + i = omega arith in
    ap (bit_of e) q ∙ each_zero n e (k + 1) (omega (arith, halves e k n)) i (omega arith)

all_zero : (n e k : ℕ) → ((i : ℕ) → i < n → bit_of e (k + i) ≡ 0) → e / 2 ^ k % 2 ^ n ≡ 0
all_zero zero e k f = omega arith
all_zero (suc n) e k f =
    let low = ap (bit_of e) (sym (add-zero k)) ∙ f 0 (omega arith) in
    let high = all_zero n e (k + 1) (λ i h. let q : k + 1 + i ≡ k + suc i = omega arith in ap (bit_of e) q ∙ f (suc i) (omega arith)) in
    omega (arith, halves e k n, low, high)

zeros_exactly : (e i n j : ℕ) → i + n ≡ suc j → (zeros e i n ≡ true) ↔ ZeroBits e i j
zeros_exactly e i n j q = (
  λ z k low high.
      let d : k ≡ i + (k - i) = omega arith in
      ap (bit_of e) d ∙ each_zero n e i (eqb-true _ _ z) (k - i) (omega arith),
  λ f. eq-eqb _ _ (all_zero n e i (λ k h. f (i + k) (omega arith) (omega arith))),
)

pub reserved_exactly : (k : Kind) (e : ℕ) → (reserved_clear k e ≡ true) ↔ Reserved k e
unfolding reserved_clear
reserved_exactly Pointer e = and_exactly (zeros_exactly e 52 12 63 refl) (and_exactly (zeros_exactly e 1 2 2 refl) (zeros_exactly e 5 4 8 refl))
reserved_exactly Directory e = and_exactly (zeros_exactly e 52 12 63 refl) (zeros_exactly e 7 1 7 refl)
reserved_exactly Page e = zeros_exactly e 52 12 63 refl
