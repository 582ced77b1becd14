-- `load` meets its contract: the words passed stand for the number of the bytes passed.
use Rattle.std.proofs.Common.{arith}
use Rattle.rsa.proofs.Bytes.{load_start, load_next}
use Rattle.rsa.proofs.Loops.{starts, goes}
use Rattle.rsa.proofs.words.load.Goals as goal

pub loop-j-init : goal.loop-j-init
loop-j-init c = (starts _, load_start c.args.s.now)

pub loop-j-preserved : goal.loop-j-preserved
loop-j-preserved c = (
  goes _ _ _ _ c.loop-j.invariant.0 (omega arith),
  load_next c.loop-j.t c.args.s.now c.loop-j.j _ (omega arith) c.loop-j.invariant.1 c.from_le_bytes.ensures,
)
