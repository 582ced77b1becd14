-- `digests_extent` meets its contract: one law for each answer.
use Rattle.policy_reader.proofs.ReadExtents.{handed_on}
use Rattle.policy_reader.proofs.ElementTests.{alg_outside, alg_unknown, count_outside, count_over, digests_extra, digests_fill, product_fits, end_fits}
use borrow.Author.Rules.{rules}
use Rattle.policy_reader.proofs.elements.digests_extent.Goals as goal

pub returns-in_err-read : goal.returns-in_err-read
returns-in_err-read c = handed_on c.from_residual.ensures.1 (search (rules, c.in_err-read.was, alg_outside))

pub returns-then-length-eq0 : goal.returns-then-length-eq0
returns-then-length-eq0 c = search (rules, c.in_ok-read.was, alg_unknown)

pub returns-in_err-count : goal.returns-in_err-count
returns-in_err-count c = handed_on c.from_residual-in_err-count.ensures.1 (search (rules, c.in_ok-read.was, c.in_err-count.was, count_outside))

pub overflow_mul-end : goal.overflow_mul-end
overflow_mul-end c = record { fits = search (rules, c.in_ok-count.was, product_fits) }

pub overflow_add-end : goal.overflow_add-end
overflow_add-end c = record { fits = search (rules, c.in_ok-count.was, end_fits) }

pub returns-then-t-end : goal.returns-then-t-end
returns-then-t-end c = search (rules, c.in_ok-read.was, c.in_ok-count.was, count_over)

pub returns-then-end-t : goal.returns-then-end-t
returns-then-end-t c = search (rules, c.in_ok-read.was, c.in_ok-count.was, digests_extra)

pub returns : goal.returns
returns c = search (rules, c.in_ok-read.was, c.in_ok-count.was, digests_fill)
