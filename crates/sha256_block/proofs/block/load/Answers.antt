-- Each word is the one of its own four bytes.
use Rattle.std.proofs.Common.{arith}
use Rattle.sha256_block.proofs.BlockWords.{words_each}
use Rattle.sha256_block.proofs.block.load.Goals as goal

pub returns : goal.returns
returns c = words_each 16 _ _ c.loop-i.invariant.long (λ k h. c.loop-i.invariant.done k (omega arith))
