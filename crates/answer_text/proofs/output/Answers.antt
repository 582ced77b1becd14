-- `output` meets its contract: what a program lends has room for the whole output.
use borrow.Author.Rules.{rules}
use Rattle.answer_text.proofs.Room.{lent_length, lent_text}
use Rattle.answer_text.proofs.output.Goals as goal

pub returns : goal.returns
returns c = record {
  length = lent_length _ _ c.args.out.now (search rules) (search rules) _ c.output_in.ensures.length;
  text = lent_text _ _ c.args.out.now (search rules) (search rules) _ c.output_in.ensures.text;
  front = c.output_in.ensures.front;
}
