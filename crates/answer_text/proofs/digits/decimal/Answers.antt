-- `decimal` meets its contract. The loop's invariant: the digits that are left to put in, and those that stand behind them, are the
-- number's; and there are places for those that are left.
use mathlib.Core.Path.{refl, ◌∙◌}
use mathlib.Core.List.{append-nil}
use native.Mathlib.Omega.{arith}
use lib.ListN.{length-set}
use Rattle.answer_text.proofs.Lines.{tenth, digits_step, digits_end}
use Rattle.answer_text.proofs.digits.decimal.Goals as goal

pub loop-left-init : goal.loop-left-init
loop-left-init c = (omega arith, omega arith, omega arith, refl, append-nil _)

pub loop-left-preserved : goal.loop-left-preserved
loop-left-preserved c =
    let t = tenth c.loop-left.start c.loop-left.left c.loop-left.invariant.2 c.loop-left-test.true in (
      omega arith,
      omega arith,
      t.1,
      simp length-set c.loop-left.invariant.3,
      digits_step c.loop-left.bytes c.loop-left.start c.loop-left.left _ c.loop-left.invariant.0 (omega arith) c.loop-left-test.true c.digit.ensures ∙ c.loop-left.invariant.4,
    )

pub returns : goal.returns
returns c =
    (omega arith, simp length-set c.loop-left.invariant.3, digits_end c.loop-left.bytes c.loop-left.start c.loop-left.left _ c.loop-left.invariant.0 (omega arith) (omega arith) c.digit-2.ensures ∙ c.loop-left.invariant.4)
