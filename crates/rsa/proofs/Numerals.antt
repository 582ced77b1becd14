-- The number of a string with the highest byte first is that of the reversed string with the lowest byte first, and determines the string.
use Prim.Native.Nat.{ℕ, zero, suc, ◌+◌, ◌*◌, ◌^◌, ◌<◌}
use mathlib.Core.Path.{◌≡◌, refl, ap, sym, ◌∙◌}
use mathlib.Core.Bool.{Bool, true, false, true≢false, not-eq-not}
use mathlib.Core.List.{List, [], ◌∷◌, ◌++◌, reverse, reverse-cons, reverse-reverse}
use native.Mathlib.Nat.{pow-succ', mod-lt, mod-eq_of_lt, le_of_eq}
use native.Mathlib.Omega.{arith}
use borrow.Author.Tests.{eq-eqb, eqb-true}
use lib.Dec.{eqb, lit<}
use lib.ListN.{length, length-reverse}
use lib.Seq.{take_all}
use Rattle.field.specs.Number.{Bytes, bytes, number}
use Rattle.field.specs.Field.{same}
use Rattle.field.proofs.Laws.{bytes_number, same_exactly}
use Rattle.sha256.specs.Message.{big_endian, numeral}
use Rattle.sha256.proofs.BigEndian.{length_big, numeral_big}
use Rattle.rsa.specs.Inner.{little_endian}
use Rattle.rsa.proofs.Strings.{bytes_cons, bytes_reverse}

-- one byte more at the end
number_last : (s : List ℕ) (b : ℕ) → number (suc (length s)) (s ++ (b ∷ [])) ≡ number (length s) s + 256 ^ length s * b
unfolding number
number_last [] b = omega arith
number_last (a ∷ s) b = rw (pow-succ' 256 (length s)) (omega (arith, number_last s b))

pub little_reverse : (s : List ℕ) → little_endian (reverse s) ≡ numeral s
unfolding numeral number
little_reverse [] = refl
little_reverse (b ∷ s) =
    let l : length (reverse s) ≡ length s = length-reverse s in
    let e : length (reverse (b ∷ s)) ≡ suc (length (reverse s)) = length-reverse (b ∷ s) ∙ ap suc (sym l) in
    let n = number_last (reverse s) b in
    rw (e, reverse-cons b s) (n ∙ rw (little_reverse s, l) (omega arith))

pub numeral_reverse : (s : List ℕ) → numeral (reverse s) ≡ little_endian s
numeral_reverse s = sym (little_reverse (reverse s)) ∙ ap little_endian (reverse-reverse s)

-- the bytes of a string follow from its length and its number
string_of : (k : ℕ) (e : List ℕ) → length e ≡ k → Bytes e → e ≡ reverse (bytes k (numeral e))
string_of k e l b =
    let r : length (reverse e) ≡ k = length-reverse e ∙ l in
    let n : number k (reverse e) ≡ numeral e = ap (λ (j : ℕ). number j (reverse e)) (sym r) ∙ little_reverse e in
    let f : bytes k (number k (reverse e)) ≡ reverse e =
    bytes_number k (reverse e) (bytes_reverse e b) (le_of_eq (sym r)) ∙ take_all k (reverse e) (le_of_eq r)
    in
    sym (ap (λ (x : ℕ). reverse (bytes k x)) (sym n) ∙ ap reverse f ∙ reverse-reverse e)

numeral_unique : (k : ℕ) (a b : List ℕ) → length a ≡ k → length b ≡ k → Bytes a → Bytes b → numeral a ≡ numeral b → a ≡ b
numeral_unique k a b la lb ba bb e = string_of k a la ba ∙ ap (λ (x : ℕ). reverse (bytes k x)) e ∙ sym (string_of k b lb bb)

pub bytes_big : (k x : ℕ) → Bytes (big_endian k x)
unfolding big_endian
bytes_big zero x = λ i. lit< tt
bytes_big (suc k) x = bytes_cons _ (big_endian k x) (mod-lt _ (lit< tt)) (bytes_big k x)

-- a number that k bytes hold is the number of a string of k bytes exactly where its bytes are that string
pub same_number : (k x : ℕ) (e : List ℕ) → x < 256 ^ k → length e ≡ k → Bytes e → eqb x (numeral e) ≡ same (big_endian k x) e
same_number k x e h l b = by (eqb x (numeral e)) refl
  where
    whole : numeral (big_endian k x) ≡ x
    whole = numeral_big k x ∙ mod-eq_of_lt h

    by : (t : Bool) → eqb x (numeral e) ≡ t → t ≡ same (big_endian k x) e
    by true f =
        sym ((same_exactly (big_endian k x) e).1 (numeral_unique k (big_endian k x) e (length_big k x) l (bytes_big k x) b (whole ∙ eqb-true x (numeral e) f)))
    by false f =
        sym (not-eq-not.0 (λ g.
        true≢false (sym (eq-eqb x (numeral e) (sym whole ∙ ap numeral ((same_exactly (big_endian k x) e).0 g))) ∙ f)))
