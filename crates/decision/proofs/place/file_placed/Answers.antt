-- `file_placed` meets its contract: its tests are those of the rule.
use mathlib.Core.Path.{sym, ◌∙◌}
use mathlib.Core.Bool.{true≢false}
use native.Mathlib.Omega.{arith}
use Rattle.range.proofs.Ranges.{inside_bounds}
use Rattle.rules.proofs.Tests.{fails, agrees}
use Rattle.decision.proofs.Conditions.{placed_exactly}
use Rattle.decision.proofs.place.file_placed.Goals as goal

pub returns-then-size : goal.returns-then-size
returns-then-size c = fails (placed_exactly _ _ _ _) (λ h. omega arith)

pub returns-then-size-2 : goal.returns-then-size-2
returns-then-size-2 c = fails (placed_exactly _ _ _ _) (λ h. omega arith)

pub returns : goal.returns
returns c =
    agrees _ (placed_exactly _ _ _ _)
    (λ e.
    let i = (inside_bounds _ _).0 (sym c.inside.ensures ∙ e) in
    record { least = omega arith; most = omega arith; from = i.0; to = i.1 })
    (λ e h. true≢false (sym ((inside_bounds _ _).1 (h.from, h.to)) ∙ sym c.inside.ensures ∙ e))
