-- `entry_matches` meets its contract: its tests are those of the entry's fields.
use mathlib.Core.Path.{sym, ◌∙◌}
use mathlib.Core.Bool.{true≢false}
use borrow.Author.Tests.{eq-eqb}
use Rattle.sinit.specs.Rules.{match}
use Rattle.sinit.proofs.Conditions.{match_exactly}
use Rattle.rules.proofs.Tests.{fails, agrees, ◌&◌, each}
use Rattle.sinit.proofs.table.entry_matches.Goals as goal

pub returns-then-number_or_zero-chipset : goal.returns-then-number_or_zero-chipset
returns-then-number_or_zero-chipset c = fails (match_exactly _ _ _) (λ h. c.if-number_or_zero-chipset.true (c.number_or_zero.ensures.0 ∙ h.same_vendor))

pub returns-then-number_or_zero-chipset-2 : goal.returns-then-number_or_zero-chipset-2
returns-then-number_or_zero-chipset-2 c = fails (match_exactly _ _ _) (λ h. c.if-number_or_zero-chipset-2.true (c.number_or_zero-2.ensures.0 ∙ h.same_device))

pub returns : goal.returns
unfolding match
returns c =
    let r = rw (c.number_or_zero-flags.ensures.0, c.number_or_zero-revision.ensures.0) at c.revision_matches.ensures in
    agrees _ (each _)
    (λ e.
    eq-eqb _ _ (sym c.number_or_zero.ensures.0 ∙ c.if-number_or_zero-chipset.false)
    & eq-eqb _ _ (sym c.number_or_zero-2.ensures.0 ∙ c.if-number_or_zero-chipset-2.false)
    & (sym r ∙ e)
    & tt)
    (λ e t. true≢false (sym t.1.1.0 ∙ sym r ∙ e))
