-- `first_extent` meets its contract: one law for each answer.
use Rattle.policy_reader.proofs.ElementTests.{element_outside, element_small, element_long, element_faulty, element_filled}
use Rattle.policy_reader.proofs.ReadExtents.{handed_on, part_fits}
use borrow.Author.Rules.{rules}
use Rattle.policy_reader.proofs.elements.first_extent.Goals as goal

pub returns-in_err-size : goal.returns-in_err-size
returns-in_err-size c = handed_on c.from_residual.ensures.1 (search (rules, c.in_err-size.was, element_outside))

pub returns-then-size-lt12 : goal.returns-then-size-lt12
returns-then-size-lt12 c = search (rules, c.in_ok-size.was, element_small)

pub returns-then-t-size : goal.returns-then-t-size
returns-then-t-size c = search (rules, c.in_ok-size.was, element_long)

pub further-requires : goal.further-requires
further-requires c = search (rules, part_fits)

pub returns-in_err-further : goal.returns-in_err-further
returns-in_err-further c = handed_on c.from_residual-in_err-further.ensures.1 (search (rules, c.in_ok-size.was, c.in_err-further.was, element_faulty))

pub returns : goal.returns
returns c = search (rules, c.in_ok-size.was, c.in_ok-further.was, element_filled)
