-- The loop writes the digits of one byte at each turn.
use Rattle.std.proofs.Common.{arith, length-set}
use Rattle.fips_vectors.proofs.Text.{step, end}
use Rattle.fips_vectors.proofs.line.Goals as goal

pub loop-i-preserved : goal.loop-i-preserved
loop-i-preserved c = record {
  long = simp length-set c.loop-i.invariant.long;
  written = step c.args.digest c.loop-i.text c.loop-i.i _ _ (omega arith) (omega arith) c.digit.ensures c.digit-in-loop-i.ensures c.loop-i.invariant.written;
}

pub returns : goal.returns
returns c = end c.args.digest c.loop-i.text c.loop-i.i 64 (omega arith) (omega arith) (omega arith) c.loop-i.invariant.written
