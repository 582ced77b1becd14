-- `put_number` meets its contract. The invariant: what is left to put gives the buffer that all of it gives.
use mathlib.Core.Path.{refl}
use native.Mathlib.Omega.{arith}
use Rattle.policy_writer.proofs.Buffer.{number_start, number_on, number_end}
use borrow.Author.Rules.{rules}
use Rattle.policy_writer.proofs.puts.put_number.Goals as goal

pub loop-k-init : goal.loop-k-init
loop-k-init c = (search rules, search (rules, number_start))

pub bounds-out-at : goal.bounds-out-at
bounds-out-at c = omega (arith, c.placed-last.ensures.within (omega arith), c.loop-k.invariant.1.same)

pub loop-k-preserved : goal.loop-k-preserved
loop-k-preserved c =
    (search rules, number_on _ _ _ _ _ _ _ _ (omega (arith, c.placed-last.ensures.most)) refl c.loop-k.invariant.1)

pub shape_of-out : goal.shape_of-out
shape_of-out c = c.loop-k.invariant.1.same

pub returns : goal.returns
returns c = number_end _ _ _ _ _ _ _ _ c.placed-last.ensures c.loop-k-test.false c.loop-k.invariant.0 c.loop-k.invariant.1
