-- Steps of the arithmetic modulo n, on words: what the functions hand on, put together.
use Prim.Native.Nat.{ℕ, zero, suc, ◌+◌, ◌*◌, ◌/◌, ◌%◌, ◌^◌, ◌-◌, ◌≤◌, ◌<◌}
use mathlib.Core.Path.{◌≡◌, refl, ap, sym, ◌∙◌}
use mathlib.Core.List.{List, [], ◌∷◌}
use native.Mathlib.Nat.{mod-add-div, mod-lt, mod-eq_of_lt, pow-zero, pow-suc, pow-succ', mul_comm, mul_assoc, mul_left_comm}
use native.Mathlib.Numerals.{add-one}
use native.Mathlib.Omega.{arith}
use lib.Dec.{lit<}
use lib.Pow.{pow-add}
use lib.ListN.{length, take, drop, get_or}
use Rattle.rsa.specs.Words.{value, power}
use Rattle.rsa.specs.Montgomery.{radix, extended, Operands, Stepped, Product, Fourth}
use Rattle.rsa.proofs.Values.{Words, value_below, prefix_more, power_suc, power_more, whole}
use Rattle.rsa.proofs.Modulo.{by_multiple, mul_both, add_both, mul_remainder, cancel}
use Rattle.rsa.proofs.Steps.{reduced_low, reduced_high, lowest, whole_step, step_below}

-- the lowest word and the rest
pub value_low : (l : List ℕ) → value l ≡ get_or l 0 0 + 2 ^ 32 * value (drop 1 l)
unfolding value
value_low [] = refl
value_low (x ∷ l) = refl

-- REDUCTION

module _ (n t v : List ℕ) (top r : ℕ) (same : length t ≡ length n) (kept : length v ≡ length t) (wn : Words n) (wt : Words t) (wv : Words v)
    (below : extended n t top < 2 * value n) (sum : (value v + power (length t) * r) + value n ≡ value t + power (length t)) where
  bn : value n < radix n
  bn = value_below n wn

  bt : value t < radix n
  bt = rw same at (value_below t wt)

  bv : value v < radix n
  bv =
      let e : length v ≡ length n = kept ∙ same in
      rw e at (value_below v wv)

  -- where the top word is 0 and t is not below n
  pub reduce_low : top ≡ 0 → value n ≤ value t → value v ≡ extended n t top % value n
  reduce_low z h =
      let e : extended n t top ≡ value t = omega (arith, ap (λ (w : ℕ). radix n * w) z) in
      rw e (reduced_low (radix n) (value t) (value v) (value n) r bt bv bn h (omega arith) (rw same at sum))

  pub reduce_high : (top ≡ 0 → ⊥) → value v ≡ extended n t top % value n
  reduce_high z = reduced_high (radix n) (value t) top (value v) (value n) r bt bv bn z below (rw same at sum)

pub reduce_none : (n t : List ℕ) (top : ℕ) → top ≡ 0 → value t < value n → value t ≡ extended n t top % value n
reduce_none n t top z h =
    let e : extended n t top ≡ value t = omega (arith, ap (λ (w : ℕ). radix n * w) z) in
    rw e (sym (mod-eq_of_lt h))

-- A STEP OF THE PRODUCT

module _ (n t₀ t₁ t₂ t₃ b : List ℕ) (top x r c m d : ℕ) (ops : Operands t₀ b n) (some : 0 < length n) (negative : (get_or n 0 0 * r + 1) % 2 ^ 32 ≡ 0) (below : extended n t₀ top < 2 * value n)
    (kept₁ : length t₁ ≡ length t₀) (kept₂ : length t₂ ≡ length t₁) (e₁ : value t₁ + power (length t₀) * c ≡ value t₀ + x * value b)
    (em : m ≡ (get_or t₁ 0 0 * r + 0 + 0) % 2 ^ 32) (e₂ : value t₂ + power (length t₁) * d ≡ value t₁ + m * value n) where
  sizes : (power (length t₀) ≡ radix n) × (power (length t₁) ≡ radix n) × (power (length t₂) ≡ radix n)
  sizes =
      let f : length t₁ ≡ length n = kept₁ ∙ ops.room in
      let g : length t₂ ≡ length n = kept₂ ∙ f in
      (ap power ops.room, ap power f, ap power g)

  lowest_zero : get_or t₂ 0 0 < 2 ^ 32 → get_or t₂ 0 0 ≡ 0
  lowest_zero h =
      let p : ℕ = power (length n - 1) in
      let k : length n - 1 + 1 ≡ length n = omega (arith, some) in
      let e : radix n ≡ 2 ^ 32 * p = ap power (sym k) ∙ power_more (length n - 1) in
      let q : value t₂ + 2 ^ 32 * p * d ≡ value t₁ + m * value n = rw (sizes.1, e) at e₂ in
      lowest (get_or t₁ 0 0) (get_or n 0 0) r m (get_or t₂ 0 0) h em negative (value (drop 1 t₂) + p * d) (value (drop 1 t₁) + m * value (drop 1 n))
      (apart p (value t₁) (value t₂) (value n) (get_or t₁ 0 0) (get_or t₂ 0 0) (get_or n 0 0) (value (drop 1 t₁)) (value (drop 1 t₂)) (value (drop 1 n)) m d q (value_low t₁) (value_low t₂) (value_low n))
    where
      apart : (p v₁ v₂ n a₁ a₂ a l₁ l₂ l m d : ℕ) → v₂ + 2 ^ 32 * p * d ≡ v₁ + m * n → v₁ ≡ a₁ + 2 ^ 32 * l₁ → v₂ ≡ a₂ + 2 ^ 32 * l₂ → n ≡ a + 2 ^ 32 * l
          → a₂ + 2 ^ 32 * (l₂ + p * d) ≡ a₁ + m * a + 2 ^ 32 * (l₁ + m * l)
      apart p v₁ v₂ n a₁ a₂ a l₁ l₂ l m d q f₁ f₂ f = omega (arith, ap (λ (w : ℕ). m * w) f)

  pub stepped : (s lo hi : ℕ) → x < 2 ^ 32 → get_or t₂ 0 0 < 2 ^ 32 → s ≡ 1 * top + c + d → lo ≡ s % 2 ^ 32 → hi ≡ s / 2 ^ 32
      → 2 ^ 32 * value t₃ + get_or t₂ 0 0 ≡ value t₂ + power (length t₂) * lo → Stepped n t₃ hi (extended n t₀ top + x * value b)
  stepped s lo hi hx hz es el eh e₃ =
      let f : s ≡ lo + 2 ^ 32 * hi = omega (arith, mod-add-div s (2 ^ 32)) in
      let e : 2 ^ 32 * extended n t₃ hi ≡ extended n t₀ top + x * value b + value n * m =
      whole_step (radix n) (value t₀) (value t₁) (value t₂) (value t₃) (value b) (value n) x m c d top s lo hi
      (rw sizes.0 at e₁) (rw sizes.1 at e₂) (rw (lowest_zero hz, sizes.2) at e₃) es f
      in
      let hm : m < 2 ^ 32 = rw em (mod-lt (get_or t₁ 0 0 * r + 0 + 0) (lit< tt)) in
      record {
        below = step_below (extended n t₀ top) (extended n t₃ hi) (value b) (value n) x m below ops.below hx hm e;
        divided = by_multiple (value n) (2 ^ 32 * extended n t₃ hi) (extended n t₀ top + x * value b) m e;
      }

-- THE PRODUCT: the start, a turn and the end

pub product_start : (n t b : List ℕ) → value t ≡ 0 → value b < value n
    → (extended n t 0 < 2 * value n) × (power 0 * extended n t 0 % value n ≡ value [] * value b % value n)
unfolding value
product_start n t b z h =
    let e : extended n t 0 ≡ 0 = omega arith in
    let f : 0 * value b ≡ 0 = omega arith in
    let g : power 0 * extended n t 0 ≡ 0 = omega arith in
    (omega arith, rw (g, f))

pub product_next : (n t u a b : List ℕ) (top hi i : ℕ) → i < length a → power i * extended n t top % value n ≡ value (take i a) * value b % value n
    → Stepped n u hi (extended n t top + get_or a i 0 * value b)
    → power (i + 1) * extended n u hi % value n ≡ value (take (i + 1) a) * value b % value n
product_next n t u a b top hi i h e s =
    let p : ℕ = power i in
    let x : ℕ = get_or a i 0 in
    let t' : ℕ = extended n t top in
    let u' : ℕ = extended n u hi in
    let e₁ : power (i + 1) * u' ≡ p * (2 ^ 32 * u') = rw (power_more i) (omega arith) in
    let e₂ = mul_both (value n) p (2 ^ 32 * u') (t' + x * value b) s.divided in
    let e₃ : p * (t' + x * value b) ≡ p * t' + p * x * value b = omega arith in
    let e₄ = add_both (value n) (p * x * value b) (p * t') (value (take i a) * value b) e in
    let e₅ : value (take i a) * value b + p * x * value b ≡ value (take (i + 1) a) * value b = rw (prefix_more a i h) (omega arith) in
    ap (λ (z : ℕ). z % value n) e₁ ∙ e₂ ∙ ap (λ (z : ℕ). z % value n) e₃ ∙ e₄ ∙ ap (λ (z : ℕ). z % value n) e₅

pub product_end : (n t v a b : List ℕ) (top i : ℕ) → 0 < value n → length a ≡ length n → length a ≤ i → i ≤ length a
    → power i * extended n t top % value n ≡ value (take i a) * value b % value n → value v ≡ extended n t top % value n → Product n v a b
product_end n t v a b top i pos same h k e f =
    let j : i ≡ length n = omega arith in
    let q : power i ≡ radix n = ap power j in
    let g : radix n * extended n t top % value n ≡ value a * value b % value n = rw (q, whole a i h) at e in
    record {
      below = rw f (mod-lt (extended n t top) pos);
      divided = ap (λ (z : ℕ). radix n * z % value n) f ∙ mul_remainder (value n) (radix n) (extended n t top) ∙ g;
    }

-- MULTIPLES

pub remainder_below : (v x n : ℕ) → v ≡ x % n → 0 < n → v < n
remainder_below v x n e h = rw e (mod-lt x h)

pub times_start : (v n : ℕ) → v < n → v ≡ 2 ^ 0 * v % n
times_start v n h =
    let e : 1 * v ≡ v = omega arith in
    rw e (sym (mod-eq_of_lt h))

pub times_next : (k v n : ℕ) {t u : ℕ} → t ≡ 2 ^ k * v % n → u ≡ 2 * t % n → u ≡ 2 ^ (k + 1) * v % n
times_next k v n {t} {u} e f =
    let g : 2 ^ (k + 1) * v ≡ 2 * (2 ^ k * v) = rw (add-one, pow-succ' 2 k) (omega arith) in
    f ∙ ap (λ (z : ℕ). 2 * z % n) e ∙ mul_remainder n 2 (2 ^ k * v) ∙ ap (λ (z : ℕ). z % n) (sym g)

-- FACTORS

-- a product in which one factor is R * u modulo n
quotient : (n t a b : List ℕ) (u : ℕ) → value n % 2 ≡ 1 → Product n t a b → value a ≡ radix n * u % value n → value t ≡ u * value b % value n
quotient n t a b u odd p e =
    let v : ℕ = value n in
    let f : radix n * value t % v ≡ radix n * (u * value b) % v =
    p.divided
    ∙ ap (λ (z : ℕ). z * value b % v) e
    ∙ ap (λ (z : ℕ). z % v) (mul_comm (radix n * u % v) (value b))
    ∙ mul_remainder v (value b) (radix n * u)
    ∙ ap (λ (z : ℕ). z % v) (mul_comm (value b) (radix n * u) ∙ mul_assoc (radix n) u (value b))
    in
    sym (mod-eq_of_lt p.below) ∙ cancel (length n) v (value t) (u * value b) odd f

square : (n t a : List ℕ) (u : ℕ) → value n % 2 ≡ 1 → Product n t a a → value a ≡ radix n * u % value n → value t ≡ radix n * (u * u) % value n
square n t a u odd p e =
    quotient n t a a u odd p e
    ∙ ap (λ (z : ℕ). u * z % value n) e
    ∙ mul_remainder (value n) u (radix n * u)
    ∙ ap (λ (z : ℕ). z % value n) (mul_left_comm u (radix n) u)

-- THE SQUARE OF R

pow_fourth : (c j : ℕ) → 2 ^ (c * j) * 2 ^ (c * j) * (2 ^ (c * j) * 2 ^ (c * j)) ≡ 2 ^ (4 * c * j)
pow_fourth c j =
    let e : 4 * c * j ≡ c * j + c * j + (c * j + c * j) = omega arith in
    rw (e, pow-add 2 (c * j + c * j) (c * j + c * j), pow-add 2 (c * j) (c * j))

pow_words : (j : ℕ) → 2 ^ (32 * j) ≡ power j
pow_words zero = refl
pow_words (suc j) =
    let e : 32 * suc j ≡ 32 + 32 * j = omega arith in
    rw (e, pow-add 2 32 (32 * j), pow_words j, power_suc j)

-- 2^(32 * l - 16), doubled 2 * l + 16 times
pub radix_start : (n : List ℕ) (v w : ℕ) → 65536 * v ≡ radix n → w ≡ 2 ^ (2 * length n + 16) * v % value n → w ≡ radix n * 2 ^ (2 * length n) % value n
radix_start n v w e f =
    let g : 2 ^ (2 * length n + 16) * v ≡ radix n * 2 ^ (2 * length n) =
    rw (pow-add 2 (2 * length n) 16) (omega (arith, ap (λ (z : ℕ). 2 ^ (2 * length n) * z) e))
    in
    f ∙ ap (λ (z : ℕ). z % value n) g

-- four squares of R * 2^(2 * l)
pub radix_squares : (n : List ℕ) (x y z : ℕ) → x ≡ radix n * 2 ^ (2 * length n) % value n → Fourth n x y → Fourth n y z → z ≡ radix n * radix n % value n
radix_squares n x y z e f g =
    let j : ℕ = length n in
    let h : y ≡ radix n * 2 ^ (8 * j) % value n = f (2 ^ (2 * j)) e ∙ ap (λ (w : ℕ). radix n * w % value n) (pow_fourth 2 j) in
    g (2 ^ (8 * j)) h ∙ ap (λ (w : ℕ). radix n * w % value n) (pow_fourth 8 j ∙ pow_words j)

-- THE POWER

pub squared_twice : (n x y z : List ℕ) → value n % 2 ≡ 1 → Product n y x x → Product n z y y → (value z < value n) × Fourth n (value x) (value z)
squared_twice n x y z odd p q = (q.below, λ u e. square n z y (u * u) odd q (square n y x u odd p e))

-- two squares more
fourth : (s k : ℕ) → s ^ (4 ^ k) * s ^ (4 ^ k) * (s ^ (4 ^ k) * s ^ (4 ^ k)) ≡ s ^ (4 ^ (k + 1))
fourth s k =
    let e : 4 ^ (k + 1) ≡ 4 ^ k + 4 ^ k + (4 ^ k + 4 ^ k) = rw (add-one, pow-succ' 4 k) (omega arith) in
    rw (e, pow-add s (4 ^ k + 4 ^ k) (4 ^ k + 4 ^ k), pow-add s (4 ^ k) (4 ^ k))

pub raise_next : (n : List ℕ) (x z s k : ℕ) → x ≡ radix n * s ^ (4 ^ k) % value n → Fourth n x z → z ≡ radix n * s ^ (4 ^ (k + 1)) % value n
raise_next n x z s k e f = f (s ^ (4 ^ k)) e ∙ ap (λ (w : ℕ). radix n * w % value n) (fourth s k)

pub raise_start : (n y x s : List ℕ) → value n % 2 ≡ 1 → value y ≡ radix n * radix n % value n → Product n x y s → value x ≡ radix n * value s ^ (4 ^ 0) % value n
raise_start n y x s odd e p =
    let g : value s ≡ value s ^ (4 ^ 0) = sym (pow-succ' (value s) 0 ∙ rw (pow-zero (value s)) (omega arith)) in
    quotient n x y s (radix n) odd p e ∙ ap (λ (w : ℕ). radix n * w % value n) g

pub raise_end : (n x y s : List ℕ) (k : ℕ) → value n % 2 ≡ 1 → k ≤ 8 → 8 ≤ k → value x ≡ radix n * value s ^ (4 ^ k) % value n → Product n y x s
    → value y ≡ value s ^ 65537 % value n
raise_end n x y s k odd h l e p =
    let f : k ≡ 8 = omega arith in
    let g : value x ≡ radix n * value s ^ 65536 % value n = rw f at e in
    quotient n y x s (value s ^ 65536) odd p g ∙ ap (λ (w : ℕ). w % value n) (sym (pow-suc (value s) 65536))

-- the lowest word of an odd number
pub odd_words : (n : List ℕ) → value n % 2 ≡ 1 → 0 < length n
unfolding value
odd_words [] e = absurd (omega arith)
odd_words (x ∷ n) e = omega arith

pub odd_low : (n : List ℕ) → value n % 2 ≡ 1 → get_or n 0 0 % 2 ≡ 1
odd_low n e = omega (arith, value_low n)
