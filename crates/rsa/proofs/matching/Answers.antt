-- `matching` meets its contract: each test that fails decides, and otherwise the power does.
use Prim.Native.Nat.{◌<◌}
use mathlib.Core.Path.{sym, ◌∙◌}
use native.Mathlib.Omega.{arith}
use Rattle.rsa.specs.Words.{value}
use Rattle.rsa.proofs.Matches.{low_odd, even, not_below, not_above, compared}
use borrow.Author.Tests.{ltb-true}
use Rattle.rsa.proofs.matching.Goals as goal

pub returns-then-n-eq0 : goal.returns-then-n-eq0
returns-then-n-eq0 c = even c.args.n.now _ _ (omega (arith, c.if-n-eq0.true))

pub returns-then-not-less : goal.returns-then-not-less
returns-then-not-less c = not_below _ _ _ (sym c.less.ensures ∙ c.if-not-less.true)

pub returns-then-not-less-2 : goal.returns-then-not-less-2
returns-then-not-less-2 c = not_above _ _ _ (sym c.less-2.ensures ∙ c.if-not-less-2.true)

pub new-requires : goal.new-requires
new-requires c = low_odd c.args.n.now c.if-n-eq0.false

pub raise-requires : goal.raise-requires
raise-requires c =
    let above : value c.args.m.now < value c.args.n.now = ltb-true _ _ (sym c.less-2.ensures ∙ c.if-not-less-2.false) in
    rw c.new.ensures (record {
      result = c.requires.room.second;
      scratch = c.requires.room.first;
      long = c.requires.room.signature;
      below = ltb-true _ _ (sym c.less.ensures ∙ c.if-not-less.false);
      large = omega (arith, c.requires.large, above);
    })

pub returns : goal.returns
returns c =
    let raised = c.raise in
    compared (value c.args.n.now) (value c.args.s.now) (value c.args.m.now) (value raised.new.y) c.same.result
    (low_odd c.args.n.now c.if-n-eq0.false) (sym c.less.ensures ∙ c.if-not-less.false) (rw c.new.ensures at raised.ensures) c.same.ensures
