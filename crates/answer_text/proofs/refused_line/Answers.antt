-- `refused_line` meets its contract: each piece goes behind the one before.
use Rattle.answer_text.proofs.Lines.{placed_said, number_said}
use Rattle.answer_text.proofs.refused_line.Goals as goal

pub returns-then-a-eq-NOT_OF_GRAMMAR : goal.returns-then-a-eq-NOT_OF_GRAMMAR
returns-then-a-eq-NOT_OF_GRAMMAR c =
    placed_said c.args.a c.if-a-eq-NOT_OF_GRAMMAR.true c.new.ensures.1 c.with_text.ensures.1 c.with_number-number.ensures.1
    c.with_text-then-a-eq-NOT_OF_GRAMMAR.ensures.1 c.with_number-place.ensures.1 c.with_text-then-a-eq-NOT_OF_GRAMMAR-2.ensures.1

pub returns : goal.returns
returns c =
    number_said c.args.a c.if-a-eq-NOT_OF_GRAMMAR.false c.new.ensures.1 c.with_text.ensures.1 c.with_number-number.ensures.1 c.with_text-2.ensures.1
