-- `page_line` meets its contract. The loop's invariant: the digits that are left to put in, and what stands behind them, are the line.
use Rattle.std.proofs.Common.{◌≡◌, refl, ◌∙◌, arith, length-set}
use Rattle.answer_text.specs.Text.{hex, page_line}
use Rattle.answer_text.proofs.Lines.{hex_step}
use Rattle.answer_text.proofs.page_line.Goals as goal

pub loop-at-init : goal.loop-at-init
unfolding page_line
loop-at-init c = record { long = refl; rest = refl }

pub loop-at-preserved : goal.loop-at-preserved
loop-at-preserved c = record {
  long = simp length-set c.loop-at.invariant.long;
  rest = hex_step c.loop-at.bytes c.loop-at.at c.loop-at.left _ c.loop-at-test.true (omega arith) c.hex_digit.ensures ∙ c.loop-at.invariant.rest;
}

pub returns : goal.returns
unfolding hex
returns c =
    let z : c.loop-at.at ≡ 0 = omega arith in
    rw z at c.loop-at.invariant.rest
