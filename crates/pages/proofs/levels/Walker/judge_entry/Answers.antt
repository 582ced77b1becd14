-- `judge_entry` meets its contract: it tries the rules in their order.
use borrow.Author.Tests.{ltb-true}
use Rattle.rules.proofs.Refusals.{held}
use Rattle.pages.proofs.Tried.{address_below}
use Rattle.pages.proofs.levels.Walker.judge_entry.Goals as goal

pub judge_own-requires : goal.judge_own-requires
judge_own-requires c =
    record { above = ltb-true _ _ (held _ _ c.in_ok-require-3.ensures); below = rw c.address-a.ensures (address_below _) }
