use Rattle.std.proofs.Common.{◌*◌}
use Rattle.sha256_block.specs.Block.{words_of, variables}
use Rattle.sha256_block.specs.Schedule.{Before}
use Rattle.sha256_block.proofs.block.compress.Given as goal

abbrev pub invariant-loop-group : goal.invariant-loop-group
invariant-loop-group l = Before (16 * l.group) (variables l.h) (words_of 16 l.block) l.x l.w
