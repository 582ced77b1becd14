-- `body_extent` meets its contract: one law for each type.
use Rattle.policy_reader.proofs.ElementTests.{body_launch, body_stm, body_other}
use borrow.Author.Rules.{rules}
use Rattle.policy_reader.proofs.elements.body_extent.Goals as goal

pub returns-in-16 : goal.returns-in-16
returns-in-16 c = search (rules, body_launch)

pub returns-in-20 : goal.returns-in-20
returns-in-20 c = search (rules, body_stm)

pub returns-in_default : goal.returns-in_default
returns-in_default c = search (rules, body_other)
