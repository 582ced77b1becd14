-- With one read more, what stands at the front is what the input has lost.
use Rattle.std.proofs.Common.{rules}
use Rattle.capture_io.proofs.Filled.{one_more}
use Rattle.capture_io.proofs.read_full.Goals as goal

pub loop-done-preserved : goal.loop-done-preserved
loop-done-preserved g c = (
  search rules,
  search rules,
  one_more _ _ _ _ _ _ _ _ (search rules) c.in-Ok.ensures.bound.0 c.loop-done.invariant.2 c.in-Ok.ensures.bytes.0,
)
