-- What a signature that verifies is, as plain propositions, and that `verifies` says exactly this, which proofs/Verified.antt proves as `verifies_exactly`.
use Rattle.std.specs.Prelude.{ℕ, ◌%◌, ◌^◌, ◌<◌, ◌≡◌, ◌↔◌, ◌⊎◌, true, List, length}
use Rattle.rsa.specs.Rsa.{i2osp, os2ip, rsavp1, encode, turned, verifies}

-- the modulus of a key, the number of a signature, and what is recovered from it
abbrev pub modulus : List ℕ → ℕ
modulus key = os2ip (turned key)

abbrev pub recovered : List ℕ → List ℕ → ℕ
recovered key signature = rsavp1 (modulus key) (os2ip (turned signature))

pub record Verifies (key signature message : List ℕ) : Type 0 where
  pub size : (length key ≡ 256) ⊎ (length key ≡ 384)
  pub long : length signature ≡ length key
  -- "A zero or even modulus, or a signature not below it, never verifies."
  pub odd : modulus key % 2 ≡ 1
  pub below : os2ip (turned signature) < modulus key
  -- the octets of what is recovered are the encoded message
  pub fits : recovered key signature < 256 ^ length key
  pub encoded : i2osp (recovered key signature) (length key) ≡ encode message (length key)

abbrev pub VerifiesExactly : Type 0
VerifiesExactly = (key signature message : List ℕ) → (verifies key signature message ≡ true) ↔ Verifies key signature message
