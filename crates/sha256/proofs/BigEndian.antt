-- The bytes of a number, the highest first, for every width.
use Rattle.std.proofs.Common.{◌≡◌, ℕ, zero, suc, ◌+◌, ◌*◌, ◌/◌, ◌%◌, ◌^◌, ◌<◌, ◌≤◌, List, [], ◌∷◌, ◌++◌, length, get_or, sym, refl, ap, ◌∙◌, ap₂, append_assoc, append-nil, take, pow-suc, arith, lit<, length-append, pow_pos, pow-add}
use Rattle.std.proofs.lemmas.List.{take_more}
use Rattle.std.proofs.lemmas.Slice.{take-put_mid}
use Rattle.std.specs.Int.{w32, w64, to_be_bytes}
use lib.Arith.{mod-mul}
use borrow.Rule.Slice.PartMut.{put_mid}
use Rattle.sha256.specs.Message.{byte_of, big_endian, numeral, digest_of}

-- a byte is what a shift by its place leaves
pow_eight : (k : ℕ) → 2 ^ (8 * k) ≡ 256 ^ k
pow_eight zero = refl
pow_eight (suc k) =
    ap (λ (n : ℕ). 2 ^ n) (omega arith)
    ∙ pow-add 2 (8 * k) 8
    ∙ ap (λ (n : ℕ). n * 256) (pow_eight k)
    ∙ sym (pow-suc 256 k)

pub length_big : (k x : ℕ) → length (big_endian k x) ≡ k
unfolding big_endian
length_big zero x = refl
length_big (suc k) x = ap suc (length_big k x)

-- as the library has them
module _ (x : ℕ) where
  one : x / 1 ≡ x
  one = omega arith

  pub four_bytes : to_be_bytes w32 x ≡ big_endian 4 x
  unfolding big_endian
  four_bytes = rw one

  pub eight_bytes : to_be_bytes w64 x ≡ big_endian 8 x
  unfolding big_endian
  eight_bytes = rw one

-- the bytes of a number write it, as far as they are enough
pub numeral_big : (k x : ℕ) → numeral (big_endian k x) ≡ x % 256 ^ k
unfolding numeral big_endian
numeral_big zero x = omega arith
numeral_big (suc k) x =
    let p : 0 < 256 ^ k = rw (← pow_eight k) (pow_pos (8 * k)) in
    let e : 256 * 256 ^ k ≡ 256 ^ suc k = omega (arith, pow-suc 256 k) in
    ap (λ (n : ℕ). byte_of k x * 256 ^ n + numeral (big_endian k x)) (length_big k x)
    ∙ ap (λ (n : ℕ). byte_of k x * 256 ^ k + n) (numeral_big k x)
    ∙ sym (mod-mul x (lit< tt) p)
    ∙ ap (λ (n : ℕ). x % n) e

-- the bytes of a hash value, four for each word
pub length_digest : (h : List ℕ) → length (digest_of h) ≡ 4 * length h
unfolding digest_of
length_digest [] = refl
length_digest (x ∷ h) = length-append (big_endian 4 x) (digest_of h) ∙ omega (arith, length_big 4 x, length_digest h)

pub digest_append : (h g : List ℕ) → digest_of (h ++ g) ≡ digest_of h ++ digest_of g
unfolding digest_of
digest_append [] g = refl
digest_append (x ∷ h) g = ap (λ (l : List ℕ). big_endian 4 x ++ l) (digest_append h g) ∙ sym (append_assoc (big_endian 4 x) (digest_of h) (digest_of g))

-- one word more, whose bytes are written behind those of the words before it
pub digest_more : (h d y : List ℕ) (i k : ℕ) → i < length h → 4 * i ≤ length d → take (4 * i) d ≡ digest_of (take i h) → y ≡ big_endian 4 (get_or h i 0)
    → take (4 * (i + 1)) (put_mid (4 * i) k d y) ≡ digest_of (take (i + 1) h)
unfolding digest_of
digest_more h d y i k lt room front e =
    let x = get_or h i 0 in
    let size : length y ≡ 4 = ap length e ∙ length_big 4 x in
    take-put_mid (4 * i) k d y (4 * (i + 1)) (omega arith) room
    ∙ ap₂ ◌++◌ front (e ∙ sym (append-nil (big_endian 4 x)))
    ∙ sym (digest_append (take i h) (x ∷ []))
    ∙ ap digest_of (sym (take_more h i 0 lt))
