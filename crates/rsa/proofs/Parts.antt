-- The lengths of a key, and the number of the encoded message.
use Rattle.std.proofs.Common.{◌≡◌, ℕ, ◌*◌, ◌/◌, ◌≤◌, List, reverse, length, replicate, ap, ◌∙◌, refl, arith}
use Rattle.std.proofs.lemmas.List.{length-replicate}
use mathlib.Core.Bool.{Bool, true, false, ◌||◌, false≢true}
use borrow.Author.Tests.{ne_eqb, eqb-true}
use lib.Dec.{eqb}
use Rattle.rsa.specs.Words.{power}
use Rattle.rsa.specs.Rsa.{os2ip, is_key_size}
use Rattle.rsa.specs.Inner.{little_endian, encoded_digest}
use Rattle.rsa.proofs.Encoding.{encoded_large}
use Rattle.rsa.proofs.Numerals.{little_reverse}

pub first_size : is_key_size 256 ≡ true
unfolding is_key_size
first_size = refl

pub second_size : is_key_size 384 ≡ true
unfolding is_key_size
second_size = refl

pub no_size : (k : ℕ) → (k ≡ 256 → ⊥) → (k ≡ 384 → ⊥) → is_key_size k ≡ false
unfolding is_key_size
no_size k m n = rw (ne_eqb k 256 m, ne_eqb k 384 n)

-- a known length in bytes is enough for the encoded message
pub key_room : (k : ℕ) → is_key_size k ≡ true → 54 ≤ k
unfolding is_key_size
key_room k e = by (eqb k 256) (eqb k 384) refl refl e
  where
    by : (a b : Bool) → eqb k 256 ≡ a → eqb k 384 ≡ b → (a || b) ≡ true → 54 ≤ k
    by true b f g e = let h : k ≡ 256 = eqb-true k 256 f in omega arith
    by false true f g e = let h : k ≡ 384 = eqb-true k 384 g in omega arith
    by false false f g e = absurd (false≢true e)

module _ (k : ℕ) (h em : List ℕ) (e : em ≡ reverse (encoded_digest (length (replicate {A = ℕ} k 0)) h)) where
  pub message_number : little_endian em ≡ os2ip (encoded_digest k h)
  message_number =
      ap little_endian (e ∙ ap (λ (n : ℕ). reverse (encoded_digest n h)) (length-replicate {A = ℕ} k 0)) ∙ little_reverse (encoded_digest k h)

  pub message_large : (l m n : ℕ) → length h ≡ 32 → 54 ≤ k → k ≡ 4 * l → n ≡ l → m ≡ little_endian em → power n ≤ 65536 * m
  message_large l m n long room size same em_number =
      let f = encoded_large k h long room (omega arith) in
      let q : k / 4 ≡ n = omega arith in
      rw (em_number, message_number, ← q) f
