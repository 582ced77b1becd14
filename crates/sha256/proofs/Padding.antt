-- The padding: it is what FIPS 180-4, 5.1.1, asks for, and a length modulo 2^64 is enough to know it. Behind the last bytes of
-- the message it is made of zeros by writing 0x80 and the length.
use Rattle.std.proofs.Common.{◌≡◌, ℕ, suc, ◌+◌, ◌-◌, ◌*◌, ◌%◌, ◌^◌, List, ◌∷◌, ◌++◌, length, take, drop, set, replicate, sym, refl, ap, ◌∙◌, ap₂, append_assoc, arith, length-append, drop_at}
use Rattle.std.proofs.lemmas.List.{length-replicate, drop-replicate, take-replicate, set_at}
use Rattle.std.proofs.lemmas.Slice.{take-put_mid}
use lib.Seq.{take-append-add}
use borrow.Rule.Slice.PartMut.{put_mid}
use Rattle.sha256.specs.Message.{big_endian, zeros, padding, numeral, PaddedBelow}
use Rattle.sha256.proofs.BigEndian.{length_big, numeral_big}

pub padded_exactly : PaddedBelow
unfolding padding
padded_exactly m below =
    let n = length m in
    let b = big_endian 8 (n * 8 % 2 ^ 64) in
    let front : List ℕ = m ++ 0x80 ∷ replicate (zeros n) 0 in
    let whole : m ++ padding n ≡ front ++ b = sym (append_assoc m (0x80 ∷ replicate (zeros n) 0) b) in
    let f : length front ≡ n + 1 + zeros n = simp (length-append, length-replicate) (omega arith) in
    let l : length (front ++ b) ≡ length front + 8 = simp length-append (omega (arith, length_big 8 (n * 8 % 2 ^ 64))) in
    record {
      blocks = rw whole (omega arith);
      fewest = λ k h. omega arith;
      last =
          rw whole
          (ap numeral (drop_at front b (length (front ++ b) - 8) (omega arith))
          ∙ numeral_big 8 (n * 8 % 2 ^ 64)
          ∙ omega arith);
    }

pub padding_mod : (n : ℕ) → padding (n % 2 ^ 64) ≡ padding n
unfolding padding
padding_mod n =
    let z : zeros (n % 2 ^ 64) ≡ zeros n = omega arith in
    let l : n % 2 ^ 64 * 8 % 2 ^ 64 ≡ n * 8 % 2 ^ 64 = omega arith in
    rw (z, l)

-- the bytes behind the whole blocks, then 0x80, then the length, each written to its place among zeros
module _ (rest : List ℕ) (n : ℕ) (waits : length rest ≡ n % 64) where
  -- before the length is written
  marked : (p : List ℕ) → p ≡ replicate 128 0 → set (rest ++ drop (length rest) p) (length rest) 0x80 ≡ rest ++ 0x80 ∷ replicate (127 - length rest) 0
  marked p e =
      let f = length rest in
      let s : 128 - f ≡ suc (127 - f) = omega arith in
      let d : drop f p ≡ 0 ∷ replicate (127 - f) 0 =
      ap (drop f) e ∙ drop-replicate f 128 0 ∙ ap (λ (k : ℕ). replicate k 0) s in
      ap (λ (x : List ℕ). set (rest ++ x) f 0x80) d ∙ set_at rest 0 (replicate (127 - f) 0) 0x80 f refl

  pub front : (p a l : List ℕ) (k : ℕ) → p ≡ replicate 128 0 → a ≡ rest → l ≡ big_endian 8 (n * 8 % 2 ^ 64)
      → take (length rest + 1 + (119 - length rest) % 64 + 8) (put_mid (length rest + 1 + (119 - length rest) % 64) k (set (a ++ drop (length rest) p) (length rest) 0x80) l)
      ≡ rest ++ padding n
  unfolding padding
  front p a l k ep ea el =
      let f = length rest in
      let z = (119 - f) % 64 in
      let m : List ℕ = rest ++ 0x80 ∷ replicate (127 - f) 0 in
      let size : length l ≡ 8 = ap length el ∙ length_big 8 (n * 8 % 2 ^ 64) in
      let em : set (a ++ drop f p) f 0x80 ≡ m = ap (λ (x : List ℕ). set (x ++ drop f p) f 0x80) ea ∙ marked p ep in
      let lm : length m ≡ 128 = simp (length-append, length-replicate) (omega arith) in
      let ez : zeros n ≡ z = ap (λ (j : ℕ). (119 - j) % 64) (sym waits) in
      let e1 : f + 1 + z ≡ f + suc z = omega arith in
      let before : take (f + 1 + z) m ≡ rest ++ 0x80 ∷ replicate z 0 =
      ap (λ (j : ℕ). take j m) e1
      ∙ take-append-add rest (0x80 ∷ replicate (127 - f) 0) (suc z)
      ∙ ap (λ (x : List ℕ). rest ++ 0x80 ∷ x) (take-replicate z (127 - f) 0 (omega arith)) in
      ap (λ (x : List ℕ). take (f + 1 + z + 8) (put_mid (f + 1 + z) k x l)) em
      ∙ take-put_mid (f + 1 + z) k m l (f + 1 + z + 8) (omega arith) (omega arith)
      ∙ ap₂ ◌++◌ before el
      ∙ append_assoc rest (0x80 ∷ replicate z 0) (big_endian 8 (n * 8 % 2 ^ 64))
      ∙ ap (λ (j : ℕ). rest ++ 0x80 ∷ (replicate j 0 ++ big_endian 8 (n * 8 % 2 ^ 64))) (sym ez)
