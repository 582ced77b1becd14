-- `signed_extent` meets its contract: one law for each answer.
use Rattle.policy_reader.proofs.ListTests.{counter_outside, key_size_outside, key_unknown, key_over, key_yes, key_fits, signature_fits}
use Rattle.policy_reader.proofs.ReadExtents.{handed_on}
use borrow.Author.Rules.{rules}
use Rattle.policy_reader.proofs.lists.signed_extent.Goals as goal

pub returns-in_err-read : goal.returns-in_err-read
returns-in_err-read c = handed_on c.from_residual.ensures.1 (search (rules, c.in_err-read.was, counter_outside))

pub returns-in_err-size : goal.returns-in_err-size
returns-in_err-size c = handed_on c.from_residual-in_err-size.ensures.1 (search (rules, c.in_ok-read.was, c.in_err-size.was, key_size_outside))

pub returns-then-not-known_key_size : goal.returns-then-not-known_key_size
returns-then-not-known_key_size c = search (rules, c.in_ok-read.was, c.in_ok-size.was, key_unknown)

pub overflow_add-end : goal.overflow_add-end
overflow_add-end c = record { fits = search (rules, c.in_ok-size.was, key_fits) }

pub overflow_add-end-2 : goal.overflow_add-end-2
overflow_add-end-2 c = record { fits = search (rules, c.in_ok-size.was, signature_fits) }

pub returns-then-t-end : goal.returns-then-t-end
returns-then-t-end c = search (rules, c.in_ok-read.was, c.in_ok-size.was, key_over)

pub returns : goal.returns
returns c = search (rules, c.in_ok-read.was, c.in_ok-size.was, key_yes)
