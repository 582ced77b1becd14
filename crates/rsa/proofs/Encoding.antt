-- The bytes of the encoded message by their places, its length, and the size of its number.
use Rattle.std.proofs.Common.{◌≡◌, ℕ, suc, ◌+◌, ◌*◌, ◌-◌, ◌/◌, ◌^◌, ◌≤◌, List, [], ◌∷◌, ◌++◌, reverse, length, get_or, take, drop, set, replicate, sym, refl, ap, ◌∙◌, ap₂, append_assoc, le_of_eq, lit<, arith, length-append, length-set, length-drop, length-take-le, take_all, pow-add}
use Rattle.std.proofs.lemmas.List.{length-replicate, take-replicate, take_more_set, get_or-reverse, length-reverse}
use Rattle.std.proofs.lemmas.Slice.{take-put_mid}
use borrow.Rule.Slice.PartMut.{put_mid, same_len_mid}
use Rattle.field.specs.Number.{Bytes}
use Rattle.rsa.specs.Words.{power}
use Rattle.rsa.specs.Rsa.{os2ip, digest_info_prefix}
use Rattle.rsa.specs.Inner.{encoded_digest}
use Rattle.rsa.proofs.Bytes.{number_at, power_bytes}
use Rattle.rsa.proofs.Strings.{bytes_cons, bytes_append, bytes_replicate, bytes_tested}
use Rattle.rsa.proofs.Numerals.{little_reverse}

-- PS, in front of the digest h
abbrev padding : ℕ → List ℕ → List ℕ
padding k h = replicate (k - length (digest_info_prefix ++ h) - 3) 0xff

padded : (k : ℕ) (h : List ℕ) → length h ≡ 32 → k - length (digest_info_prefix ++ h) - 3 ≡ k - 54
padded k h e = let c = length-append {A = ℕ} digest_info_prefix h in omega (arith, c)

length_padding : (k : ℕ) (h : List ℕ) → length h ≡ 32 → length (padding k h) ≡ k - 54
length_padding k h e = length-replicate {A = ℕ} (k - length (digest_info_prefix ++ h) - 3) 0xff ∙ padded k h e

pub length_encoded : (k : ℕ) (h : List ℕ) → length h ≡ 32 → 54 ≤ k → length (encoded_digest k h) ≡ k
unfolding encoded_digest
length_encoded k h e l =
    let a = length-append {A = ℕ} (padding k h) (0x00 ∷ (digest_info_prefix ++ h)) in
    let b = length_padding k h e in
    let c = length-append {A = ℕ} digest_info_prefix h in
    omega (arith, a, b, c)

pub bytes_encoded : (k : ℕ) (h : List ℕ) → Bytes h → Bytes (encoded_digest k h)
unfolding encoded_digest
bytes_encoded k h b =
    let t : List ℕ = digest_info_prefix ++ h in
    let bt : Bytes t = bytes_append digest_info_prefix h (bytes_tested digest_info_prefix refl) b in
    let rest : Bytes (padding k h ++ (0 ∷ t)) =
    bytes_append (padding k h) (0 ∷ t) (bytes_replicate (k - length t - 3) 255 (lit< tt)) (bytes_cons 0 t (lit< tt) bt)
    in
    bytes_cons 0 (1 ∷ (padding k h ++ (0 ∷ t))) (lit< tt) (bytes_cons 1 (padding k h ++ (0 ∷ t)) (lit< tt) rest)

-- a list keeps its length where as many elements as it has from a place on are written
kept : {n : ℕ} (a : ℕ) (xs ys : List ℕ) → a + n ≤ length xs → length ys ≡ n → length (put_mid a n xs ys) ≡ length xs
kept {n} a xs ys le e =
    same_len_mid a n xs ys (e ∙ sym (length-take-le n (drop a xs) (omega (arith, length-drop a xs))))

first_two : (m n : ℕ) (l : List ℕ) → l ≡ replicate (suc (suc m)) 255 → n ≤ m → take (suc (suc n)) (set (set l 0 0) 1 1) ≡ 0 ∷ 1 ∷ replicate n 255
first_two m n l e le = rw e (ap (λ (x : List ℕ). 0 ∷ 1 ∷ x) (take-replicate n m 255 le))

-- the encoded message, written part by part over bytes 0xff
module _ (k : ℕ) (h : List ℕ) (long : length h ≡ 32) (room : 54 ≤ k) where
  front : (l : List ℕ) → l ≡ replicate k 255 → take (k - 52) (set (set l 0 0) 1 1) ≡ 0 ∷ 1 ∷ replicate (k - 54) 255
  front l e =
      let a : k ≡ suc (suc (k - 2)) = omega arith in
      let b : k - 52 ≡ suc (suc (k - 54)) = omega arith in
      ap (λ (n : ℕ). take n (set (set l 0 0) 1 1)) b ∙ first_two (k - 2) (k - 54) l (e ∙ ap (λ (n : ℕ). replicate n 255) a) (omega arith)

  pub written : (l info digest : List ℕ) (m n : ℕ) → l ≡ replicate k 255 → info ≡ digest_info_prefix → digest ≡ h → m ≡ 19 → n ≡ 32
      → put_mid (k - 32) n (put_mid (k - 51) m (set (set (set l 0 0) 1 1) (k - 52) 0) info) digest ≡ encoded_digest k h
  unfolding encoded_digest
  written l info digest m n el ei ed em en =
      let two : List ℕ = set (set l 0 0) 1 1 in
      let three : List ℕ = set two (k - 52) 0 in
      let four : List ℕ = put_mid (k - 51) m three info in
      let five : List ℕ = put_mid (k - 32) n four digest in
      let size2 : length two ≡ k = simp length-set (ap length el ∙ length-replicate k 255) in
      let size3 : length three ≡ k = length-set two (k - 52) 0 ∙ size2 in
      let size4 : length four ≡ k = kept (k - 51) three info (omega arith) (ap length ei ∙ sym em) ∙ size3 in
      let size5 : length five ≡ k = kept (k - 32) four digest (omega arith) (ap length ed ∙ long ∙ sym en) ∙ size4 in
      let one : k - 51 ≡ k - 52 + 1 = omega arith in
      let p : k - 54 ≡ k - length (digest_info_prefix ++ h) - 3 = sym (padded k h long) in
      sym (take_all k five (le_of_eq size5))
      ∙ take-put_mid (k - 32) n four digest k (omega (arith, ap length ed)) (omega arith)
      ∙ ap₂ ◌++◌
      (take-put_mid (k - 51) m three info (k - 32) (omega (arith, ap length ei)) (omega arith)
      ∙ ap₂ ◌++◌ (ap (λ (j : ℕ). take j three) one ∙ take_more_set two (k - 52) 0 (omega arith) ∙ ap (λ (x : List ℕ). x ++ 0 ∷ []) (front l el)) ei)
      ed
      ∙ simp append_assoc (ap (λ (j : ℕ). 0 ∷ 1 ∷ (replicate j 255 ++ (0 ∷ (digest_info_prefix ++ h)))) p)

second : (k : ℕ) (h : List ℕ) → get_or (encoded_digest k h) 1 0 ≡ 1
unfolding encoded_digest
second k h = refl

-- the second byte of EM makes its number a number of all the words
pub encoded_large : (k : ℕ) (h : List ℕ) → length h ≡ 32 → 54 ≤ k → 4 * (k / 4) ≡ k → power (k / 4) ≤ 65536 * os2ip (encoded_digest k h)
encoded_large k h e l m =
    let n : length (encoded_digest k h) ≡ k = length_encoded k h e l in
    let r : length (reverse (encoded_digest k h)) ≡ k = length-reverse (encoded_digest k h) ∙ n in
    let i : length (encoded_digest k h) - 1 - (k - 2) ≡ 1 = omega arith in
    let one : get_or (reverse (encoded_digest k h)) (k - 2) 0 ≡ 1 =
    get_or-reverse (encoded_digest k h) (k - 2) 0 (omega arith) ∙ ap (λ (j : ℕ). get_or (encoded_digest k h) j 0) i ∙ second k h
    in
    let f = number_at (length (reverse (encoded_digest k h))) (k - 2) (reverse (encoded_digest k h)) (omega arith) in
    let g : 256 ^ (k - 2) ≤ os2ip (encoded_digest k h) = omega (arith, rw one at f, little_reverse (encoded_digest k h)) in
    let j : k - 2 + 2 ≡ k = omega arith in
    let p : 256 ^ k ≡ 65536 * 256 ^ (k - 2) = ap (λ (z : ℕ). 256 ^ z) (sym j) ∙ pow-add 256 (k - 2) 2 ∙ omega arith in
    let q : power (k / 4) ≡ 256 ^ k = sym (power_bytes (k / 4)) ∙ ap (λ (z : ℕ). 256 ^ z) m in
    omega (arith, p, q, g)
