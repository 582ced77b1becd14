-- `mask_has_sha256` meets its contract: a number shifted to the right and masked by 1 is the bit.
use Prim.Native.Nat.{ℕ, ◌%◌}
use mathlib.Core.Path.{◌≡◌}
use lib.Bits.{bit_and, and_mask}
use Rattle.policy_record.proofs.mask_has_sha256.Goals as goal

lowest : (x : ℕ) → bit_and x 1 ≡ x % 2
lowest x = and_mask x 1

pub returns : goal.returns
returns c = simp (lowest, c.number_or_zero.ensures.0)
