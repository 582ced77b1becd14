use Rattle.std.proofs.Common.{◌≡◌, ℕ, ◌*◌, ◌<◌, length, get_or, drop}
use Rattle.sha256_block.specs.Block.{word_of}
use Rattle.sha256_block.proofs.block.load.Given as goal

abbrev pub invariant-loop-i : goal.invariant-loop-i
invariant-loop-i l = record { long : length l.words ≡ 16; done : (k : ℕ) → k < l.i → get_or l.words k 0 ≡ word_of (drop (4 * k) l.block) }
