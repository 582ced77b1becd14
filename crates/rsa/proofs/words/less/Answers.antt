-- `less` meets its contract: the words from the place on are the same in both, and the first that are not decide.
use Rattle.std.proofs.Common.{sym, arith}
use borrow.Author.Tests.{le-ltb}
use Rattle.rsa.proofs.Compare.{alike_start, alike_differ, alike_next, alike_end}
use Rattle.rsa.proofs.words.less.Goals as goal

pub loop-j-init : goal.loop-j-init
loop-j-init c = alike_start c.args.a.now c.args.b.now c.requires

pub returns-then-a-j : goal.returns-then-a-j
returns-then-a-j c =
    alike_differ c.args.a.now c.args.b.now c.loop-j.j c.loop-j-test.true c.loop-j.auto.j c.requires c.loop-j.invariant
    (λ i. (c.type_inv.a i).fits) (λ i. (c.type_inv.b i).fits) c.if-a-j.true

pub loop-j-preserved : goal.loop-j-preserved
loop-j-preserved c =
    alike_next c.args.a.now c.args.b.now c.loop-j.j c.loop-j-test.true c.loop-j.auto.j c.requires c.loop-j.invariant c.if-a-j.false

pub returns : goal.returns
returns c = sym (le-ltb _ _ (alike_end c.args.a.now c.args.b.now c.loop-j.j (omega arith) c.loop-j.invariant))
