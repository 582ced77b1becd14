-- Steps of the arithmetic modulo n, on plain numbers.
use Prim.Native.Nat.{ℕ, zero, suc, ◌+◌, ◌*◌, ◌/◌, ◌%◌, ◌^◌, ◌-◌, ◌≤◌, ◌<◌}
use mathlib.Core.Path.{◌≡◌, refl, ap, sym, ◌∙◌}
use native.Mathlib.Nat.{mod-eq_of_lt, mod-eq-sub-mod, mod-add-div, mul-le-mul_right}
use native.Mathlib.Omega.{arith}
use Rattle.rsa.proofs.Modulo.{multiple}

-- REDUCTION: v is T with its top word after the subtraction of n, p the first number that the words do not hold

-- a number below 2 * n, and not below n, less n is its remainder
remainder : (x v n : ℕ) → x < 2 * n → v + n ≡ x → v ≡ x % n
remainder x v n h e =
    let f : x - n ≡ v = omega arith in
    sym (mod-eq-sub-mod {n = x} {m = n} (omega arith) ∙ ap (λ (z : ℕ). z % n) f ∙ mod-eq_of_lt (omega arith))

-- the carry r is 1 where the top word is 0, and 0 where it is 1
pub reduced_low : (p t v n r : ℕ) → t < p → v < p → n < p → n ≤ t → t < 2 * n → v + p * r + n ≡ t + p → v ≡ t % n
reduced_low p t v n zero ht hv hn l h e = absurd (omega arith)
reduced_low p t v n (suc zero) ht hv hn l h e = remainder t v n h (omega arith)
reduced_low p t v n (suc (suc r)) ht hv hn l h e = absurd (omega arith)

pub reduced_high : (p t top v n r : ℕ) → t < p → v < p → n < p → (top ≡ 0 → ⊥) → t + p * top < 2 * n → v + p * r + n ≡ t + p → v ≡ (t + p * top) % n
reduced_high p t zero v n r ht hv hn z h e = absurd (z refl)
reduced_high p t (suc (suc top)) v n r ht hv hn z h e = absurd (omega arith)
reduced_high p t (suc zero) v n zero ht hv hn z h e = remainder (t + p * 1) v n h (omega arith)
reduced_high p t (suc zero) v n (suc r) ht hv hn z h e = absurd (omega arith)

-- A STEP OF THE PRODUCT

-- the multiple of n makes the lowest word 0
pub lowest : (t n r m z : ℕ) → z < 2 ^ 32 → m ≡ (t * r + 0 + 0) % 2 ^ 32 → (n * r + 1) % 2 ^ 32 ≡ 0 → (x y : ℕ) → z + 2 ^ 32 * x ≡ t + m * n + 2 ^ 32 * y → z ≡ 0
lowest t n r m z hz hm neg x y e =
    let g : ℕ = (t * r + 0 + 0) / 2 ^ 32 in
    let q : ℕ = (n * r + 1) / 2 ^ 32 in
    let mm : m + 2 ^ 32 * g ≡ t * r + 0 + 0 = ap (λ (w : ℕ). w + 2 ^ 32 * g) hm ∙ mod-add-div (t * r + 0 + 0) (2 ^ 32) in
    let mq : n * r + 1 ≡ 2 ^ 32 * q = multiple (n * r + 1) (2 ^ 32) neg in
    end t n r m z x y g q hz e (ap (λ (w : ℕ). n * w) mm) (ap (λ (w : ℕ). t * w) mq)
  where
    end : (t n r m z x y g q : ℕ) → z < 2 ^ 32 → z + 2 ^ 32 * x ≡ t + m * n + 2 ^ 32 * y → n * (m + 2 ^ 32 * g) ≡ n * (t * r + 0 + 0)
        → t * (n * r + 1) ≡ t * (2 ^ 32 * q) → z ≡ 0
    end t n r m z x y g q hz e f k = omega arith

-- the sums of the two rows, moved one word down
pub whole_step : (p t₀ t₁ t₂ t₃ b n x m c d top s lo hi : ℕ) → t₁ + p * c ≡ t₀ + x * b → t₂ + p * d ≡ t₁ + m * n → 2 ^ 32 * t₃ + 0 ≡ t₂ + p * lo
    → s ≡ 1 * top + c + d → s ≡ lo + 2 ^ 32 * hi → 2 ^ 32 * (t₃ + p * hi) ≡ (t₀ + p * top) + x * b + n * m
whole_step p t₀ t₁ t₂ t₃ b n x m c d top s lo hi e₁ e₂ e₃ es f = omega (arith, ap (λ (w : ℕ). p * w) (sym f ∙ es))

-- and they stay below 2 * n
pub step_below : (t u b n x m : ℕ) → t < 2 * n → b < n → x < 2 ^ 32 → m < 2 ^ 32 → 2 ^ 32 * u ≡ t + x * b + n * m → u < 2 * n
step_below t u b n x m ht hb hx hm e =
    omega (arith, mul-le-mul_right {m = x} {n = 2 ^ 32 - 1} b (omega arith), mul-le-mul_right {m = m} {n = 2 ^ 32 - 1} n (omega arith))
