-- `shown` meets its contract: no pages on a refusal, else as many as there are pages or places.
use Rattle.answer_text.proofs.Written.{shown_none, shown_some}
use Rattle.answer_text.proofs.shown.Goals as goal

pub returns-then-a-ne0 : goal.returns-then-a-ne0
returns-then-a-ne0 c = shown_none c.args.a c.args.pages.now c.if-a-ne0.true

pub returns : goal.returns
returns c = rw c.min.ensures (shown_some c.args.a c.args.pages.now c.if-a-ne0.false)
