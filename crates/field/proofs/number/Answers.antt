-- `number` meets its contract. The loop goes from the highest byte down; its invariant is that x is the number of the bytes from k on.
use Prim.Native.Nat.{ℕ, suc, ◌+◌, ◌*◌, ◌-◌, ◌^◌, ◌≤◌, ◌<◌}
use mathlib.Core.Path.{◌≡◌}
use mathlib.Core.List.{List}
use native.Mathlib.Nat.{lt_of_lt_of_le, pow-le-pow_right, sub_self}
use native.Mathlib.Omega.{arith}
use lib.Dec.{lit<}
use lib.ListN.{length, get_or, drop}
use lib.Seq.{drop-cons}
use Rattle.field.specs.Number as spec
use Rattle.field.specs.Number.{Bytes}
use Rattle.field.proofs.Laws.{bytes_drop, number_below}
use Rattle.field.proofs.number.Goals as goal

-- a number of 7 bytes or fewer leaves room for another byte
seven : (n at : ℕ) (s : List ℕ) → Bytes s → n ≤ 7 → spec.number n (drop at s) < 2 ^ 56
seven n at s b h =
    lt_of_lt_of_le (number_below n (drop at s) (bytes_drop at s b)) (pow-le-pow_right {n = 256} (lit< tt) h)

start : (n : ℕ) (s : List ℕ) → 0 ≡ spec.number (n - n) s
unfolding spec.number
start n s = rw sub_self

step : (k x : ℕ) (s : List ℕ) → 0 < k → k ≤ length s → x ≡ spec.number (length s - k) (drop k s)
    → x * 256 + get_or s (k - 1) 0 ≡ spec.number (length s - (k - 1)) (drop (k - 1) s)
unfolding spec.number
step k x s p h e =
    let e₁ : length s - (k - 1) ≡ suc (length s - k) = omega arith in
    let e₂ : suc (k - 1) ≡ k = omega arith in
    rw (e₁, drop-cons s (k - 1) 0 (omega arith), e₂, e) (omega arith)

end : (k x : ℕ) (s : List ℕ) → k ≤ 0 → x ≡ spec.number (length s - k) (drop k s) → x ≡ spec.number (length s) s
end k x s h e =
    let e₁ : k ≡ 0 = omega arith in
    let e₂ : length s - 0 ≡ length s = omega arith in
    rw e₂ at (rw e₁ at e)

pub loop-k-init : goal.loop-k-init
loop-k-init c = start _ _

pub overflow_mul-x : goal.overflow_mul-x
overflow_mul-x c =
    let k = c.loop-k.k in
    record { fits = omega (arith, seven (length c.args.bytes.now - k) k c.args.bytes.now (λ i. (c.type_inv.bytes i).fits) (omega arith)) }

pub overflow_add-x : goal.overflow_add-x
overflow_add-x c =
    let k = c.loop-k.k in
    let b : Bytes c.args.bytes.now = λ i. (c.type_inv.bytes i).fits in
    record { fits = omega (arith, seven (length c.args.bytes.now - k) k c.args.bytes.now b (omega arith), b (k - 1), c.from.ensures) }

pub loop-k-preserved : goal.loop-k-preserved
loop-k-preserved c = rw c.from.ensures (step _ _ _ (omega arith) (omega arith) c.loop-k.invariant)

pub returns : goal.returns
returns c =
    let e = end _ _ _ c.loop-k-test.false c.loop-k.invariant in
    (e, rw e (number_below _ _ (λ i. (c.type_inv.bytes i).fits)))
