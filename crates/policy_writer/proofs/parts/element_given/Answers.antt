-- `element_given` meets its contract: one law for each answer.
use Rattle.policy_writer.proofs.Elements.{not_written, too_long, not_there, filled}
use borrow.Author.Rules.{rules}
use Rattle.policy_writer.proofs.parts.element_given.Goals as goal

pub returns-then-not-written_type : goal.returns-then-not-written_type
returns-then-not-written_type c = search (rules, not_written)

pub returns-then-length-gt-LARGEST_SIZE : goal.returns-then-length-gt-LARGEST_SIZE
returns-then-length-gt-LARGEST_SIZE c = search (rules, too_long)

pub returns-then-bodies-from : goal.returns-then-bodies-from
returns-then-bodies-from c = search (rules, not_there)

pub returns : goal.returns
returns c = search (rules, filled)
