-- What the tests on ranges say of the addresses in them.
use Prim.Native.Nat.{ℕ, ◌-◌, ◌≤◌, ◌<◌, max}
use mathlib.Core.Path.{◌≡◌, refl, sym, ◌∙◌}
use mathlib.Core.Logic.{◌↔◌}
use mathlib.Core.Bool.{Bool, true, false, ◌||◌, true≢false, not-eq-not, and-eq-true_iff}
use native.Mathlib.Omega.{arith}
use borrow.Author.Tests.{leb-true, leb-false, le-leb, lt-leb, eqb-false, ne_eqb}
use lib.Dec.{leb, eqb}
use Rattle.range.specs.declared.Range.{Range}
use Rattle.range.specs.Range.{end_of, Has, inside_of, clear_of, ends_by}

pub ends_exactly : (a : Range) (limit : ℕ) → (ends_by a limit ≡ true) ↔ (end_of a ≤ limit)
unfolding ends_by
ends_exactly a limit = (leb-true _ _, le-leb _ _)

or_false : (p q : Bool) → (p || q) ≡ false → (p ≡ false) × (q ≡ false)
or_false true q e = absurd (true≢false e)
or_false false q e = (refl, e)

module _ (a b : Range) where
  pub inside_bounds : (inside_of a b ≡ true) ↔ ((b.base ≤ a.base) × (end_of a ≤ end_of b))
  unfolding inside_of
  inside_bounds = (
    λ e. let p = (and-eq-true_iff _ _).0 e in (leb-true _ _ p.0, leb-true _ _ p.1),
    λ p. (and-eq-true_iff _ _).1 (le-leb _ _ p.0, le-leb _ _ p.1),
  )

  -- each address of a range inside another is one of the other's; the converse holds of a range that is not empty
  pub inside_exactly : (inside_of a b ≡ true → (x : ℕ) → Has a x → Has b x)
      × (0 < a.size → ((x : ℕ) → Has a x → Has b x) → inside_of a b ≡ true)
  inside_exactly = (
    λ e x p. let i = inside_bounds.0 e in record { from = omega arith; to = omega arith },
    λ n h.
        let low = h a.base (record { from = omega arith; to = omega arith }) in
        let high = h (end_of a - 1) (record { from = omega arith; to = omega arith }) in
        inside_bounds.1 (low.from, omega arith),
  )

  pub shared : (x : ℕ) → Has a x → Has b x → clear_of a b ≡ false
  unfolding clear_of
  shared x p q =
      simp (
        ne_eqb a.size 0 (λ e. omega arith),
        ne_eqb b.size 0 (λ e. omega arith),
        lt-leb (end_of a) b.base (omega arith),
        lt-leb (end_of b) a.base (omega arith),
      )

  -- ranges that are not clear of each other share the first address of the one that begins later
  sharing : clear_of a b ≡ false → Has a (max a.base b.base) × Has b (max a.base b.base)
  unfolding clear_of
  sharing e =
      let p = or_false (eqb a.size 0 || eqb b.size 0) (leb (end_of a) b.base || leb (end_of b) a.base) e in
      let sizes = or_false (eqb a.size 0) (eqb b.size 0) p.0 in
      let ends = or_false (leb (end_of a) b.base) (leb (end_of b) a.base) p.1 in (
        record { from = omega arith; to = omega (arith, eqb-false, leb-false) },
        record { from = omega arith; to = omega (arith, eqb-false, leb-false) },
      )

  pub clear_exactly : (clear_of a b ≡ true) ↔ ((x : ℕ) → Has a x → Has b x → ⊥)
  clear_exactly = (
    λ e x p q. true≢false (sym e ∙ shared x p q),
    λ h. not-eq-not.0 (λ e. h _ (sharing e).0 (sharing e).1),
  )
