-- `first_line` meets its contract: each piece goes behind the one before.
use Rattle.std.proofs.Common.{rules}
use Rattle.answer_text.proofs.Lines.{permitted_said, refused_said}
use Rattle.answer_text.proofs.first_line.Goals as goal

pub returns-then-a-eq0 : goal.returns-then-a-eq0
returns-then-a-eq0 c =
    permitted_said c.args.a c.if-a-eq0.true c.new.ensures.1 c.with_text.ensures.1 c.with_number-pages.ensures.1
    c.with_text-then-a-eq0.ensures.1 c.with_number-list.ensures.1 c.with_text-then-a-eq0-2.ensures.1

pub returns : goal.returns
returns c = search (rules, refused_said)
