-- `read` meets its contract: it refuses a width or a place at which no field fits, and hands every other to `number`.
use Prim.Native.Nat.{ℕ, ◌+◌, ◌-◌, ◌^◌, ◌≤◌, ◌<◌}
use mathlib.Core.Path.{◌≡◌, ap, sym, ◌∙◌}
use mathlib.Core.List.{List}
use native.Mathlib.Nat.{one-le-pow}
use native.Mathlib.Omega.{arith}
use lib.Dec.{lit<}
use lib.ListN.{length, take, drop, length-take, length-drop}
use Rattle.field.specs.Number.{number}
use Rattle.std.specs.Prelude.{Ok, Err}
use Rattle.field.specs.declared.Fault.{Fault}
use Rattle.field.specs.Field.{field_at, value_of}
use Rattle.field.proofs.Laws.{field_fits, field_outside, number_take}
use Rattle.field.proofs.read.Goals as goal

abbrev fault : ℕ → Fault
fault at = record { at = at }

outside : (s : List ℕ) (at width : ℕ) → (1 ≤ width → width ≤ 8 → at + width ≤ length s → ⊥)
    → (Err (fault at) ≡ field_at s at width) × (value_of (Err (fault at)) < 256 ^ width)
unfolding value_of
outside s at width never = (sym (field_outside s at width never), one-le-pow width 256 (lit< tt))

pub returns-then-width-lt1 : goal.returns-then-width-lt1
returns-then-width-lt1 c = outside _ _ _ (λ l h f. omega arith)

pub returns-then-width-gt-WIDEST : goal.returns-then-width-gt-WIDEST
returns-then-width-gt-WIDEST c = outside _ _ _ (λ l h f. omega arith)

pub returns-then-s-width : goal.returns-then-s-width
returns-then-s-width c = outside _ _ _ (λ l h f. omega arith)

pub returns-then-s-width-2 : goal.returns-then-s-width-2
returns-then-s-width-2 c = outside _ _ _ (λ l h f. omega arith)

whole : (s : List ℕ) (at width x : ℕ) → at + width ≤ length s
    → (x ≡ number (length (take (at + width - at) (drop at s))) (take (at + width - at) (drop at s))) × (x < 256 ^ length (take (at + width - at) (drop at s)))
    → (x ≡ number width (drop at s)) × (x < 256 ^ width)
whole s at width x f e =
    let n : at + width - at ≡ width = omega arith in
    let l : length (take width (drop at s)) ≡ width = omega (arith, length-take width (drop at s), length-drop at s) in
    let e₁ = rw (n, l) at e in
    (e₁.0 ∙ number_take width (drop at s), e₁.1)

pub returns : goal.returns
unfolding value_of
returns c =
    let e = whole c.args.s.now c.args.at c.args.width _ (omega arith) c.number.ensures in
    (ap Ok e.0 ∙ sym (field_fits _ _ _ (omega arith) (omega arith) (omega arith)), e.1)
