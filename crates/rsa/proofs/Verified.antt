-- A signature verifies by its numbers exactly where it verifies by RFC 8017's comparison of strings; and what that says as propositions.
use Prim.Native.Nat.{ℕ, ◌%◌, ◌^◌, ◌≤◌, ◌<◌}
use mathlib.Core.Path.{◌≡◌, refl, ap, sym, ◌∙◌}
use mathlib.Core.Logic.{◌↔◌, ◌⊎◌, inl, inr, ⊎_elim}
use mathlib.Core.Bool.{Bool, true, false, ◌&&◌, ◌||◌, and-false, or-true, and-eq-true_iff}
use mathlib.Core.List.{List}
use native.Mathlib.Nat.{lt_trans, mod-lt}
use native.Mathlib.Omega.{arith}
use borrow.Author.Tests.{lt-ltb, ltb-true, eq-eqb, eqb-true, ne_eqb}
use lib.Dec.{ltb, eqb}
use lib.ListN.{length, length-reverse}
use Rattle.field.specs.Number.{Bytes}
use Rattle.field.specs.Field.{same}
use Rattle.field.proofs.Laws.{number_below, same_exactly}
use Rattle.sha256.specs.Message.{sha256}
use Rattle.sha256.proofs.Parts.{length_sha256}
use Rattle.rsa.specs.Rsa.{i2osp, os2ip, rsavp1, encode, rsassa_verify, turned, verifies, is_key_size}
use Rattle.rsa.specs.Meaning.{VerifiesExactly}
use Rattle.rsa.specs.Inner.{little_endian, encoded_digest, matches}
use Rattle.rsa.proofs.Numerals.{numeral_reverse, same_number}
use Rattle.rsa.proofs.Digest.{bytes_sha256}
use Rattle.rsa.proofs.Encoding.{length_encoded, bytes_encoded}
use Rattle.rsa.proofs.Parts.{key_room}

-- key and signature, turned round
turned_number : (s : List ℕ) → os2ip (turned s) ≡ little_endian s
turned_number s = numeral_reverse s

turned_length : (s : List ℕ) → length (turned s) ≡ length s
turned_length s = length-reverse s

-- below the modulus the strings are compared as the numbers are
compared : (n k s : ℕ) (M : List ℕ) → n < 256 ^ k → 54 ≤ k → length (sha256 M) ≡ 32
    → (ltb s n && eqb (rsavp1 n s) (os2ip (encoded_digest k (sha256 M)))) ≡ (ltb s n && (ltb (rsavp1 n s) (256 ^ k) && same (i2osp (rsavp1 n s) k) (encode M k)))
unfolding encode encoded_digest
compared n k s M h l z = by (ltb s n) refl
  where
    by : (t : Bool) → ltb s n ≡ t
        → (t && eqb (rsavp1 n s) (os2ip (encoded_digest k (sha256 M)))) ≡ (t && (ltb (rsavp1 n s) (256 ^ k) && same (i2osp (rsavp1 n s) k) (encode M k)))
    by true e =
        let below : rsavp1 n s < 256 ^ k = lt_trans (mod-lt (s ^ 65537) (omega (arith, ltb-true s n e))) h in
        same_number k (rsavp1 n s) (encoded_digest k (sha256 M)) below (length_encoded k (sha256 M) z l) (bytes_encoded k (sha256 M) (bytes_sha256 M))
        ∙ rw (lt-ltb (rsavp1 n s) (256 ^ k) below)
    by false e = refl

module _ (key signature message : List ℕ) where
  pub unknown : is_key_size (length key) ≡ false → false ≡ verifies key signature message
  unfolding verifies is_key_size
  unknown e = rw e

  pub other_length : (length signature ≡ length key → ⊥) → false ≡ verifies key signature message
  unfolding verifies is_key_size rsassa_verify
  other_length n =
      rw (turned_length signature, ne_eqb (length signature) (length key) n, and-false (eqb (os2ip (turned key) % 2) 1), and-false (is_key_size (length key)))

  pub verified : (k : ℕ) (r : Bool) → Bytes key → length key ≡ k → is_key_size k ≡ true → length signature ≡ length key
      → r ≡ matches (little_endian key) (little_endian signature) (os2ip (encoded_digest k (sha256 message))) → r ≡ verifies key signature message
  unfolding verifies is_key_size rsassa_verify matches
  verified k r b size known l e =
      let known_length : is_key_size (length key) ≡ true = ap is_key_size size ∙ known in
      let c = compared (little_endian key) (length key) (little_endian signature) message (number_below (length key) key b) (key_room (length key) known_length) (length_sha256 message) in
      e
      ∙ ap (λ (n : ℕ). matches (little_endian key) (little_endian signature) (os2ip (encoded_digest n (sha256 message)))) (sym size)
      ∙ rw (known_length, turned_number key, turned_number signature, turned_length signature, eq-eqb (length signature) (length key) l, c)

-- WHAT IT SAYS

sizes : (k : ℕ) → (is_key_size k ≡ true) ↔ ((k ≡ 256) ⊎ (k ≡ 384))
unfolding is_key_size
sizes k = (by (eqb k 256) refl, ⊎_elim (λ e. rw (eq-eqb k 256 e)) (λ e. rw (eq-eqb k 384 e, or-true (eqb k 256))))
  where
    by : (t : Bool) → eqb k 256 ≡ t → (t || eqb k 384) ≡ true → (k ≡ 256) ⊎ (k ≡ 384)
    by true f e = inl (eqb-true k 256 f)
    by false f e = inr (eqb-true k 384 e)

pub verifies_exactly : VerifiesExactly
unfolding verifies rsassa_verify
verifies_exactly key signature message = (
  λ t.
      let p = (and-eq-true_iff _ _).0 t in
      let q = (and-eq-true_iff _ _).0 p.1 in
      let r = (and-eq-true_iff _ _).0 q.1 in
      let u = (and-eq-true_iff _ _).0 r.1 in
      let w = (and-eq-true_iff _ _).0 u.1 in
      record {
        size = (sizes (length key)).0 p.0;
        long = sym (turned_length signature) ∙ eqb-true _ _ r.0;
        odd = eqb-true _ _ q.0;
        below = ltb-true _ _ u.0;
        fits = ltb-true _ _ w.0;
        encoded = (same_exactly _ _).0 w.1;
      },
  λ v.
      let strings = (and-eq-true_iff _ _).1 (lt-ltb _ _ v.fits, (same_exactly _ _).1 v.encoded) in
      let numbers = (and-eq-true_iff _ _).1 (lt-ltb _ _ v.below, strings) in
      let signed = (and-eq-true_iff _ _).1 (eq-eqb _ _ (turned_length signature ∙ v.long), numbers) in
      (and-eq-true_iff _ _).1 ((sizes (length key)).1 v.size, (and-eq-true_iff _ _).1 (eq-eqb _ _ v.odd, signed)),
)
