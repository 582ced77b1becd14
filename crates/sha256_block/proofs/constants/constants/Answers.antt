-- Each row is the sixteen constants from its own first on.
use Rattle.std.proofs.Common.{◌≡◌, ℕ, zero, suc, ◌*◌, ◌<◌, [], ◌∷◌, get_or, take, drop, refl, arith}
use Rattle.sha256_block.specs.Constants.{K}
use Rattle.sha256_block.proofs.constants.constants.Goals as goal

row : (g : ℕ) → g < 4 → get_or (take 16 K ∷ take 16 (drop 16 K) ∷ take 16 (drop 32 K) ∷ take 16 (drop 48 K) ∷ []) g [] ≡ take 16 (drop (16 * g) K)
row zero h = refl
row (suc zero) h = refl
row (suc (suc zero)) h = refl
row (suc (suc (suc zero))) h = refl
row (suc (suc (suc (suc g)))) h = absurd (omega arith)

pub returns : goal.returns
unfolding K
returns c = row c.args.group c.requires
