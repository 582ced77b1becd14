-- Words and the number that they stand for, for every length.
use Prim.Native.Nat.{ℕ, zero, suc, ◌+◌, ◌*◌, ◌-◌, ◌/◌, ◌%◌, ◌^◌, ◌≤◌, ◌<◌}
use mathlib.Core.Path.{◌≡◌, refl, ap, sym, ◌∙◌}
use mathlib.Core.List.{List, [], ◌∷◌}
use native.Mathlib.Nat.{pow-suc, add-zero, mul-zero, div-add-mod}
use native.Mathlib.Numerals.{add-one}
use native.Mathlib.Omega.{arith}
use lib.Dec.{lit<}
use lib.ListN.{length, take, drop, get_or, set, replicate, length-set}
use lib.Seq.{take_all, take-set-le, drop-set-lt, drop-drop, get_or-drop, get_or-set_same}
use Rattle.std.proofs.Common.{le_refl, length-take-le, take_at}
use Rattle.std.specs.List.{copy_within}
use Rattle.rsa.specs.Words.{value, power}

-- every number of the list is a word; past the list's end `get_or` gives 0
abbrev pub Words : List ℕ → Type 0
Words l = (i : ℕ) → get_or l i 0 < 2 ^ 32

pub words_take : (n : ℕ) (l : List ℕ) → Words l → Words (take n l)
words_take zero l w i = lit< tt
words_take (suc n) [] w i = lit< tt
words_take (suc n) (x ∷ l) w zero = w zero
words_take (suc n) (x ∷ l) w (suc i) = words_take n l (λ j. w (suc j)) i

pub power_suc : (j : ℕ) → power (suc j) ≡ 2 ^ 32 * power j
power_suc j = pow-suc (2 ^ 32) j ∙ omega arith

pub power_more : (j : ℕ) → power (j + 1) ≡ 2 ^ 32 * power j
power_more j = rw add-one (power_suc j)

pub value_below : (l : List ℕ) → Words l → value l < power (length l)
unfolding value
value_below [] w = lit< tt
value_below (x ∷ l) w = rw (power_suc (length l)) (omega (arith, value_below l (λ i. w (suc i)), w 0))

-- one word more
pub prefix_suc : (l : List ℕ) (j : ℕ) → j < length l → value (take (suc j) l) ≡ value (take j l) + power j * get_or l j 0
unfolding value
prefix_suc [] j h = absurd (omega arith)
prefix_suc (x ∷ l) zero h = omega arith
prefix_suc (x ∷ l) (suc j) h = rw (power_suc j) (omega (arith, prefix_suc l j (omega arith)))

pub prefix_more : (l : List ℕ) (j : ℕ) → j < length l → value (take (j + 1) l) ≡ value (take j l) + power j * get_or l j 0
prefix_more l j h = rw add-one (prefix_suc l j h)

-- a store at the place after the first words
pub prefix_set : (l : List ℕ) (j v : ℕ) → j < length l → value (take (j + 1) (set l j v)) ≡ value (take j l) + power j * v
prefix_set l j v h =
    prefix_more (set l j v) j (rw length-set h)
    ∙ rw (take-set-le j l j v (omega arith), get_or-set_same l j v 0 h)

-- the words from a place on are those of another list, also one place further, after a store at the place
pub rest_at : (t u : List ℕ) (j : ℕ) → drop j t ≡ drop j u → get_or t j 0 ≡ get_or u j 0
rest_at t u j e =
    let a = get_or-drop j t 0 0 in
    let b = get_or-drop j u 0 0 in
    sym (rw add-zero at a) ∙ ap (λ (l : List ℕ). get_or l 0 0) e ∙ (rw add-zero at b)

pub rest_set : (t u : List ℕ) (j v : ℕ) → drop j t ≡ drop j u → drop (j + 1) (set t j v) ≡ drop (j + 1) u
rest_set t u j v e =
    drop-set-lt (j + 1) t j v (omega arith) ∙ sym (drop-drop 1 j t) ∙ ap (drop 1) e ∙ drop-drop 1 j u

pub whole : (t : List ℕ) (j : ℕ) → length t ≤ j → value (take j t) ≡ value t
whole t j h = ap value (take_all j t h)

-- the sum at a place, its low word stored and its high word carried
carried : (p pw c w s lo hi : ℕ) → s ≡ c + w → s ≡ 2 ^ 32 * hi + lo → (p + pw * lo) + (2 ^ 32 * pw) * hi ≡ (p + pw * c) + pw * w
carried p pw c w s lo hi e f = omega (arith, ap (λ (z : ℕ). pw * z) (sym f ∙ e))

pub carry : (t : List ℕ) (j c w s : ℕ) → j < length t → s ≡ c + w
    → value (take (j + 1) (set t j (s % 2 ^ 32))) + power (j + 1) * (s / 2 ^ 32) ≡ (value (take j t) + power j * c) + power j * w
carry t j c w s h e =
    rw (prefix_set t j (s % 2 ^ 32) h, power_more j)
    (carried (value (take j t)) (power j) c w s (s % 2 ^ 32) (s / 2 ^ 32) e (sym (div-add-mod s (2 ^ 32))))

-- a word that is changed, and words of the number 0
value_set : (l : List ℕ) (j v : ℕ) → j < length l → value (set l j v) + power j * get_or l j 0 ≡ value l + power j * v
unfolding value
value_set [] j v h = absurd (omega arith)
value_set (x ∷ l) zero v h = omega arith
value_set (x ∷ l) (suc j) v h = rw (power_suc j) (omega (arith, value_set l j v (omega arith)))

word_zero : (l : List ℕ) → value l ≡ 0 → (i : ℕ) → get_or l i 0 ≡ 0
unfolding value
word_zero [] e i = refl
word_zero (x ∷ l) e zero = omega arith
word_zero (x ∷ l) e (suc i) = word_zero l (omega arith) i

pub high_word : (l : List ℕ) → 0 < length l → value l ≡ 0 → 65536 * value (set l (length l - 1) 65536) ≡ power (length l)
high_word l h e =
    let k : length l - 1 + 1 ≡ length l = omega arith in
    let p : power (length l) ≡ 2 ^ 32 * power (length l - 1) = ap power (sym k) ∙ power_more (length l - 1) in
    let f = value_set l (length l - 1) 65536 (omega arith) in
    let z : power (length l - 1) * get_or l (length l - 1) 0 ≡ 0 = ap (λ (w : ℕ). power (length l - 1) * w) (word_zero l e (length l - 1)) ∙ mul-zero _ in
    rw p (omega (arith, f, z))

value_zeros : (n : ℕ) → value (replicate n 0) ≡ 0
unfolding value
value_zeros zero = refl
value_zeros (suc n) = rw (value_zeros n)

pub zeros : {l : List ℕ} (n : ℕ) → l ≡ replicate n 0 → value l ≡ 0
zeros n e = ap value e ∙ value_zeros n

-- the words one place further down, and a new highest one
pub shifted : (u s : List ℕ) (top : ℕ) → 0 < length u → length s ≡ length u → s ≡ copy_within u 1 (length u) 0
    → 2 ^ 32 * value (set s (length u - 1) top) + get_or u 0 0 ≡ value u + power (length u) * top
unfolding value
shifted [] s top h l e = absurd (omega arith)
shifted (x ∷ w) s top h l e =
    let j : length (x ∷ w) - 1 ≡ length w = omega arith in
    let moved : take (length w) s ≡ w =
    ap (take (length w)) (rw j at e) ∙ take_at (take (length w) w) _ (length w) (length-take-le (length w) w (le_refl (length w))) ∙ take_all (length w) w (le_refl (length w)) in
    let whole_words = whole (set s (length w) top) (length w + 1) (rw length-set (omega arith)) in
    rw (j, ← whole_words, prefix_set s (length w) top (omega arith), moved, power_suc (length w)) (omega arith)
