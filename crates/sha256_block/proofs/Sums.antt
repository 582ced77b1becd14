-- The sum of FIPS 180-4 is the one that wraps.
use Rattle.std.proofs.Common.{◌≡◌, ℕ, ◌+◌, ◌%◌, ◌^◌, refl}
use Rattle.sha256_block.specs.Words.{◌⊞◌}

pub wraps : (x y : ℕ) → x ⊞ y ≡ (x + y) % 2 ^ 32
unfolding ◌⊞◌
wraps x y = refl
