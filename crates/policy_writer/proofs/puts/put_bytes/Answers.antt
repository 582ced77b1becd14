-- `put_bytes` meets its contract. The invariant: what is left to put gives the buffer that all of it gives.
use mathlib.Core.Path.{refl}
use native.Mathlib.Omega.{arith}
use Rattle.policy_writer.proofs.Buffer.{left_start, bytes_on, bytes_end}
use borrow.Author.Rules.{rules}
use Rattle.policy_writer.proofs.puts.put_bytes.Goals as goal

pub loop-k-init : goal.loop-k-init
loop-k-init c = (search rules, left_start _ _ _)

pub bounds-s-k : goal.bounds-s-k
bounds-s-k c = omega (arith, c.placed-n.ensures.most)

pub bounds-out-at : goal.bounds-out-at
bounds-out-at c = omega (arith, c.placed-n.ensures.within (omega arith), c.loop-k.invariant.1.same)

pub loop-k-preserved : goal.loop-k-preserved
loop-k-preserved c =
    (search rules, bytes_on _ _ _ _ _ _ (omega (arith, c.placed-n.ensures.most)) refl c.loop-k.invariant.1)

pub shape_of-out : goal.shape_of-out
shape_of-out c = c.loop-k.invariant.1.same

pub returns : goal.returns
returns c = bytes_end _ _ _ _ _ _ c.placed-n.ensures c.loop-k-test.false c.loop-k.invariant.0 c.loop-k.invariant.1
