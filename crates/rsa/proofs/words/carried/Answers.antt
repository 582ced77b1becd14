-- `carried` meets its contract: in each turn the words passed, with the carry, are the number of the sums up to the place.
use native.Mathlib.Omega.{arith}
use borrow.Author.Rules.{rules}
use Rattle.rsa.proofs.Loops.{starts, goes, joins_start, joins_next, joins_end}
use Rattle.rsa.proofs.words.carried.Goals as goal

pub loop-j-init : goal.loop-j-init
loop-j-init g c = (starts _, joins_start _ c.args.t.now c.args.first)

pub sum-s-requires : goal.sum-s-requires
sum-s-requires g c = c.requires _ _ _ (omega (arith, c.loop-j.invariant.0.long))

pub loop-j-preserved : goal.loop-j-preserved
loop-j-preserved g c = (
  goes _ _ _ _ c.loop-j.invariant.0 (omega arith),
  joins_next _ c.args.t.now c.args.first c.loop-j.t c.loop-j.c c.loop-j.j c.loop-j.invariant.0 c.loop-j.invariant.1
      c.sum-s.result _ _ (omega arith) (search rules) c.sum-s.ensures c.low.ensures c.high-c.ensures,
)

pub returns : goal.returns
returns g c = joins_end _ c.args.t.now c.args.first c.loop-j.t c.loop-j.c c.loop-j.j c.loop-j.invariant.0 c.loop-j.invariant.1 (omega arith)
