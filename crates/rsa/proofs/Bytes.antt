-- Words of four bytes each: the number of the words is the number of the bytes.
use Prim.Native.Nat.{ℕ, zero, suc, ◌+◌, ◌*◌, ◌^◌, ◌≤◌, ◌<◌}
use mathlib.Core.Path.{◌≡◌, refl, ◌∙◌}
use mathlib.Core.List.{List, [], ◌∷◌}
use native.Mathlib.Nat.{pow-succ', add_assoc, mul-zero}
use native.Mathlib.Numerals.{add-one}
use native.Mathlib.Omega.{arith}
use lib.ListN.{length, take, get_or, set}
use lib.Pow.{pow-add}
use Rattle.field.specs.Number.{number}
use Rattle.rsa.specs.Words.{value, power}
use Rattle.rsa.proofs.Values.{prefix_set, power_suc}

number_suc : (w : ℕ) (s : List ℕ) → number (suc w) s ≡ number w s + 256 ^ w * get_or s w 0
unfolding number
number_suc zero [] = refl
number_suc zero (b ∷ s) = omega arith
number_suc (suc w) [] = omega arith
number_suc (suc w) (b ∷ s) = rw (pow-succ' 256 w) (omega (arith, number_suc w s))

number_more : (w : ℕ) (s : List ℕ) → number (w + 1) s ≡ number w s + 256 ^ w * get_or s w 0
number_more w s = rw add-one (number_suc w s)

-- a word is four bytes
pub power_bytes : (j : ℕ) → 256 ^ (4 * j) ≡ power j
power_bytes zero = refl
power_bytes (suc j) =
    let e : 4 * suc j ≡ suc (suc (suc (suc (4 * j)))) = omega arith in
    rw (e, pow-succ' 256 (suc (suc (suc (4 * j)))), pow-succ' 256 (suc (suc (4 * j))), pow-succ' 256 (suc (4 * j)), pow-succ' 256 (4 * j), power_suc j)
    (omega (arith, power_bytes j))

four : (w : ℕ) (s : List ℕ) → number (w + 4) s ≡ number w s + 256 ^ w * (get_or s w 0 + get_or s (w + 1) 0 * 256 + get_or s (w + 2) 0 * 65536 + get_or s (w + 3) 0 * 16777216)
four w s =
    let e₁ = number_more w s in
    let e₂ : number (w + 2) s ≡ number (w + 1) s + 256 ^ (w + 1) * get_or s (w + 1) 0 = rw add_assoc at (number_more (w + 1) s) in
    let e₃ : number (w + 3) s ≡ number (w + 2) s + 256 ^ (w + 2) * get_or s (w + 2) 0 = rw add_assoc at (number_more (w + 2) s) in
    let e₄ : number (w + 4) s ≡ number (w + 3) s + 256 ^ (w + 3) * get_or s (w + 3) 0 = rw add_assoc at (number_more (w + 3) s) in
    rw (e₄, e₃, e₂, e₁, pow-add 256 w 1, pow-add 256 w 2, pow-add 256 w 3) (omega arith)

pub load_start : (s : List ℕ) → value [] ≡ number 0 s
unfolding value number
load_start s = refl

pub load_next : (t s : List ℕ) (j v : ℕ) → j < length t → value (take j t) ≡ number (4 * j) s
    → v ≡ get_or s (4 * j) 0 + get_or s (4 * j + 1) 0 * 256 + get_or s (4 * j + 2) 0 * 65536 + get_or s (4 * j + 3) 0 * 16777216
    → value (take (j + 1) (set t j v)) ≡ number (4 * (j + 1)) s
load_next t s j v h e f =
    let m : 4 * (j + 1) ≡ 4 * j + 4 = omega arith in
    prefix_set t j v h ∙ rw (m, four (4 * j) s, power_bytes j, e, f)

-- a byte counts at its place
pub number_at : (w i : ℕ) (s : List ℕ) → i < w → 256 ^ i * get_or s i 0 ≤ number w s
unfolding number
number_at zero i s h = absurd (omega arith)
number_at (suc w) i [] h = rw (mul-zero (256 ^ i)) (omega arith)
number_at (suc w) zero (b ∷ s) h = omega arith
number_at (suc w) (suc i) (b ∷ s) h = rw (pow-succ' 256 i) (omega (arith, number_at w i s (omega arith)))
