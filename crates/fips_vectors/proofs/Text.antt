-- The line of a digest as a loop writes it: the digits that stand already, and the line of the bytes that are left.
use Rattle.std.proofs.Common.{◌≡◌, ℕ, suc, ◌+◌, ◌*◌, ◌/◌, ◌%◌, ◌<◌, ◌≤◌, List, ◌++◌, length, take, drop, set, get_or, append_assoc, add-one, arith, length-set, drop-cons}
use Rattle.std.proofs.lemmas.List.{drop_all, set_split}
use lib.Seq.{take-suc-set}
use Rattle.fips_vectors.specs.Digits.{hex_digit_ascii}
use Rattle.fips_vectors.specs.Line.{line_of}

-- the digits of the first i bytes stand in the text
abbrev pub Written : List ℕ → List ℕ → ℕ → Type 0
Written d text i = take (2 * i) text ++ line_of (drop i d) ≡ line_of d

-- the two digits of one byte more
pub step : (d text : List ℕ) (i x y : ℕ) → i < length d → 2 * i + 1 < length text
    → x ≡ hex_digit_ascii (get_or d i 0 / 16 % 16) → y ≡ hex_digit_ascii (get_or d i 0 % 16)
    → Written d text i → Written d (set (set text (2 * i) x) (2 * i + 1) y) (i + 1)
unfolding line_of
step d text i x y inside room high low e =
    let two : 2 * (i + 1) ≡ suc (2 * i + 1) = omega arith in
    let first = take-suc-set text (2 * i) x (omega arith) in
    let second = take-suc-set (set text (2 * i) x) (2 * i + 1) y (simp length-set room) in
    rw (two, second, add-one (2 * i), first, add-one i, high, low) (simp append_assoc (rw (drop-cons d i 0 inside) at e))

-- the line feed, where no byte is left
pub end : (d text : List ℕ) (i n : ℕ) → length d ≤ i → n ≡ 2 * i → length text ≡ n + 1
    → Written d text i → set text n 10 ≡ line_of d
unfolding line_of
end d text i n all double room e =
    rw (set_split text n 10 (omega arith), drop_all (suc n) text (omega arith), double)
    (rw (drop_all i d all) at e)
