use Rattle.std.proofs.Common.{◌≡◌, drop}
use Rattle.sha256_block.specs.Block.{hash_blocks}
use Rattle.sha256_block.proofs.Blocks.{over}
use Rattle.sha256_block.proofs.hash_blocks.Given as goal

abbrev pub invariant-loop-block : goal.invariant-loop-block
invariant-loop-block l = over l.words (drop l.block-index l.block-items) ≡ hash_blocks l.fn.h l.s
