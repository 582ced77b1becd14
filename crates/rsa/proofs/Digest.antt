-- A SHA-256 digest is a string of bytes.
use Prim.Native.Nat.{ℕ}
use mathlib.Core.List.{List, [], ◌∷◌}
use lib.Dec.{lit<}
use Rattle.field.specs.Number.{Bytes}
use Rattle.sha256.specs.Message.{big_endian, digest_of, sha256}
use Rattle.rsa.proofs.Strings.{bytes_append}
use Rattle.rsa.proofs.Numerals.{bytes_big}

bytes_digest : (h : List ℕ) → Bytes (digest_of h)
unfolding digest_of
bytes_digest [] = λ i. lit< tt
bytes_digest (x ∷ h) = bytes_append (big_endian 4 x) (digest_of h) (bytes_big 4 x) (bytes_digest h)

pub bytes_sha256 : (m : List ℕ) → Bytes (sha256 m)
unfolding sha256
bytes_sha256 m = bytes_digest _
