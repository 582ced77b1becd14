-- A message in parts: a state that stands for a message stands for the longer one when it has absorbed a part, and gives the
-- digest of the message.
use Rattle.std.proofs.Common.{◌≡◌, ℕ, zero, suc, ◌+◌, ◌*◌, ◌/◌, ◌%◌, ◌^◌, ◌≤◌, List, [], ◌++◌, length, take, drop, sym, refl, ap, ◌∙◌, ap₂, suc-add, zero-add, arith, length-append, length-drop, drop-drop}
use native.Mathlib.Nat.{mod-add-mod}
use lib.Seq.{take-append-le, drop-append-le}
use Rattle.sha256.specs.declared.Running.{Running}
use Rattle.sha256_block.specs.Block.{compress_of, hash, hash_blocks}
use Rattle.sha256.specs.Message.{H0, padding, digest_of, sha256}
use Rattle.sha256.specs.State.{pending, remainder, started, Absorbed, finish_of, Holds}
use Rattle.sha256.proofs.BigEndian.{length_digest}
use Rattle.sha256.proofs.Padding.{padding_mod}

-- blocks do not depend on what comes behind them
hash_append : (n : ℕ) (h a b : List ℕ) → 64 * n ≤ length a → hash n h (a ++ b) ≡ hash n h a
unfolding hash
hash_append zero h a b le = refl
hash_append (suc n) h a b le =
    rw (take-append-le 64 a b (omega arith), drop-append-le 64 a b (omega arith))
    (hash_append n (compress_of h (take 64 a)) (drop 64 a) b (omega (arith, length-drop 64 a)))

hash_add : (n p : ℕ) (h m : List ℕ) → hash (n + p) h m ≡ hash p (hash n h m) (drop (64 * n) m)
unfolding hash
hash_add zero p h m = ap (λ (j : ℕ). hash j h m) (zero-add p)
hash_add (suc n) p h m =
    let e : 64 + 64 * n ≡ 64 * suc n = omega arith in
    ap (λ (j : ℕ). hash j h m) (suc-add n p)
    ∙ hash_add n p (compress_of h (take 64 m)) (drop 64 m)
    ∙ ap (hash p (hash n (compress_of h (take 64 m)) (drop 64 m))) (drop-drop (64 * n) 64 m ∙ ap (λ (j : ℕ). drop j m) e)

-- a string in two parts: the whole blocks of the first, then what it leaves with the second
module _ (a b : List ℕ) where
  behind : remainder a ++ b ≡ drop (length a / 64 * 64) (a ++ b)
  behind = sym (drop-append-le (length a / 64 * 64) a b (omega arith))

  longer : length (a ++ b) / 64 ≡ length a / 64 + length (remainder a ++ b) / 64
  longer =
      omega (arith, length-append a b, length-append (remainder a) b, length-drop (length a / 64 * 64) a)

  pub hash_parts : (h : List ℕ) → hash_blocks (hash_blocks h a) (remainder a ++ b) ≡ hash_blocks h (a ++ b)
  hash_parts h =
      let q = length a / 64 in
      let e : q * 64 ≡ 64 * q = omega arith in
      sym
      (ap (λ (n : ℕ). hash n h (a ++ b)) longer
      ∙ hash_add q (length (remainder a ++ b) / 64) h (a ++ b)
      ∙ ap₂ (hash (length (remainder a ++ b) / 64)) (hash_append q h a b (omega arith)) (ap (λ (n : ℕ). drop n (a ++ b)) (sym e) ∙ sym behind))

  pub remainder_parts : remainder (remainder a ++ b) ≡ remainder (a ++ b)
  remainder_parts =
      let r = length (remainder a ++ b) / 64 in
      let e : length a / 64 * 64 + r * 64 ≡ length (a ++ b) / 64 * 64 = omega (arith, longer) in
      ap (drop (r * 64)) behind ∙ drop-drop (r * 64) (length a / 64 * 64) (a ++ b) ∙ ap (λ (n : ℕ). drop n (a ++ b)) e

pub start_holds : Holds started []
unfolding hash
start_holds = record { words = refl; waits = refl; total = refl }

pub absorb_holds : (s r : Running) (m part : List ℕ) → Holds s m → Absorbed s part r → Holds r (m ++ part)
absorb_holds s r m part holds done =
    record {
      words =
          done.words ∙ ap₂ (λ (h x : List ℕ). hash_blocks h (x ++ part)) holds.words holds.waits ∙ hash_parts m part H0;
      waits = done.waits ∙ ap (λ (x : List ℕ). remainder (x ++ part)) holds.waits ∙ remainder_parts m part;
      total =
          done.total
          ∙ ap (λ (n : ℕ). (n + length part) % 2 ^ 64) holds.total
          ∙ mod-add-mod (length m) (2 ^ 64) (length part)
          ∙ ap (λ (n : ℕ). n % 2 ^ 64) (sym (length-append m part));
    }

-- the digest of a message, from the hash value after its whole blocks and what it leaves behind them
pub digest_parts : (m h x : List ℕ) → h ≡ hash_blocks H0 m → x ≡ remainder m → digest_of (hash_blocks h (x ++ padding (length m))) ≡ sha256 m
unfolding sha256
digest_parts m h x eh ex =
    ap digest_of (ap₂ (λ (g y : List ℕ). hash_blocks g (y ++ padding (length m))) eh ex ∙ hash_parts m (padding (length m)) H0)

pub finish_holds : (s : Running) (m : List ℕ) → Holds s m → finish_of s ≡ sha256 m
unfolding finish_of
finish_holds s m holds =
    ap (λ (x : List ℕ). digest_of (hash_blocks s.words (pending s ++ x))) (ap padding holds.total ∙ padding_mod (length m))
    ∙ digest_parts m s.words (pending s) holds.words holds.waits

-- a digest has 32 bytes: four for each of the eight words of a hash value
length_hash : (n : ℕ) (h m : List ℕ) → length h ≡ 8 → length (hash n h m) ≡ 8
unfolding hash compress_of
length_hash zero h m l = l
length_hash (suc n) h m l = length_hash n (compress_of h (take 64 m)) (drop 64 m) refl

pub length_sha256 : (m : List ℕ) → length (sha256 m) ≡ 32
unfolding sha256
length_sha256 m =
    let s : List ℕ = m ++ padding (length m) in
    length_digest (hash_blocks H0 s) ∙ ap (λ (n : ℕ). 4 * n) (length_hash (length s / 64) H0 s refl)
