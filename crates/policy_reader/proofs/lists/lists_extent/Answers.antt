-- `lists_extent` meets its contract. The invariant: what the lists that are left give, so many bytes on, is what the whole gives.
use Rattle.policy_reader.proofs.ReadExtents.{handed_on}
use Rattle.policy_reader.proofs.Rows.{lists_start, lists_on, lists_stop, lists_extra, lists_end, row_fits, row_within}
use borrow.Author.Rules.{rules}
use Rattle.policy_reader.proofs.lists.lists_extent.Goals as goal

pub loop-init : goal.loop-init
loop-init c = (search rules, search (rules, lists_start))

pub further-requires : goal.further-requires
further-requires c = search (rules, row_fits)

pub returns-in_err-at : goal.returns-in_err-at
returns-in_err-at c = handed_on c.from_residual.ensures.1 (search (rules, c.in_err-at.was, lists_stop))

pub loop-preserved : goal.loop-preserved
loop-preserved c = (search (rules, c.in_ok-at.was, row_within), search (rules, c.in_ok-at.was, lists_on))

pub returns-then-at-t : goal.returns-then-at-t
returns-then-at-t c = search (rules, lists_extra)

pub returns : goal.returns
returns c = search (rules, lists_end)
