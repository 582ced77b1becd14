-- `launch_extent` meets its contract: one law for each answer.
use Rattle.policy_reader.proofs.ElementTests.{minimum_outside, reserved_outside, reserved_fits, launch_digests}
use Rattle.policy_reader.proofs.ReadExtents.{handed_on, rest_fits}
use borrow.Author.Rules.{rules}
use Rattle.policy_reader.proofs.elements.launch_extent.Goals as goal

pub returns-in_err-read : goal.returns-in_err-read
returns-in_err-read c = handed_on c.from_residual.ensures.1 (search (rules, c.in_err-read.was, minimum_outside))

pub returns-in_err-read-2 : goal.returns-in_err-read-2
returns-in_err-read-2 c = handed_on c.from_residual-in_err-read-2.ensures.1 (search (rules, c.in_ok-read.was, c.in_err-read-2.was, reserved_outside))

pub slice_bounds-digests_extent-start : goal.slice_bounds-digests_extent-start
slice_bounds-digests_extent-start c = search (rules, c.in_ok-read-2.was, reserved_fits)

pub slice_bounds-digests_extent-count : goal.slice_bounds-digests_extent-count
slice_bounds-digests_extent-count c = search (rules, c.in_ok-read-2.was, reserved_fits)

pub further-requires : goal.further-requires
further-requires c = search (rules, c.in_ok-read-2.was, reserved_fits, rest_fits)

pub returns : goal.returns
returns c = search (rules, c.in_ok-read.was, c.in_ok-read-2.was, launch_digests)
