-- `platform_holds` meets its contract: its tests, which form no sum, are those of rule 1.
use mathlib.Core.Path.{sym, ◌∙◌}
use mathlib.Core.Bool.{true≢false}
use native.Mathlib.Omega.{arith}
use Rattle.range.proofs.Ranges.{ends_exactly}
use Rattle.rules.proofs.Tests.{fails, agrees, confirmed, refuted}
use Rattle.launch.proofs.Conditions.{reserved_exactly, platform_exactly}
use Rattle.launch.proofs.find.platform_holds.Goals as goal

pub returns-then-p-ne0 : goal.returns-then-p-ne0
returns-then-p-ne0 c = fails (platform_exactly _ _ _ _) (λ h. omega arith)

pub returns-then-window-gt-MOST_WINDOW : goal.returns-then-window-gt-MOST_WINDOW
returns-then-window-gt-MOST_WINDOW c = fails (platform_exactly _ _ _ _) (λ h. omega arith)

pub returns-then-heap-gt-MOST_HEAP : goal.returns-then-heap-gt-MOST_HEAP
returns-then-heap-gt-MOST_HEAP c = fails (platform_exactly _ _ _ _) (λ h. omega arith)

pub returns-then-stm-gt-MOST_STM : goal.returns-then-stm-gt-MOST_STM
returns-then-stm-gt-MOST_STM c = fails (platform_exactly _ _ _ _) (λ h. omega arith)

pub returns-then-not-ends : goal.returns-then-not-ends
returns-then-not-ends c = fails (platform_exactly _ _ _ _) (λ h. refuted _ c.ends.ensures c.if-not-ends.true ((ends_exactly _ _).1 h.window_end))

pub returns-then-not-ends-2 : goal.returns-then-not-ends-2
returns-then-not-ends-2 c = fails (platform_exactly _ _ _ _) (λ h. refuted _ c.ends-2.ensures c.if-not-ends-2.true ((ends_exactly _ _).1 h.heap_end))

pub returns-then-not-ends-3 : goal.returns-then-not-ends-3
returns-then-not-ends-3 c = fails (platform_exactly _ _ _ _) (λ h. refuted _ c.ends-3.ensures c.if-not-ends-3.true ((ends_exactly _ _).1 h.dpr_end))

pub returns : goal.returns
returns c =
    c.reserved_holds.ensures
    ∙ agrees _ (platform_exactly _ _ _ _)
    (λ e.
    record {
      on_page = omega arith;
      window_most = omega arith;
      heap_most = omega arith;
      stm_most = omega arith;
      window_end = (ends_exactly _ _).0 (confirmed _ c.ends.ensures c.if-not-ends.false);
      heap_end = (ends_exactly _ _).0 (confirmed _ c.ends-2.ensures c.if-not-ends-2.false);
      dpr_end = (ends_exactly _ _).0 (confirmed _ c.ends-3.ensures c.if-not-ends-3.false);
      reserved = (reserved_exactly _).0 e;
    })
    (λ e h. true≢false (sym ((reserved_exactly _).1 h.reserved) ∙ e))
