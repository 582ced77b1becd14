-- `lengths_at` meets its contract: version 2 has the ranges before the lengths.
use mathlib.Core.Path.{sym, ◌∙◌}
use native.Mathlib.Omega.{arith}
use borrow.Author.Tests.{eq-eqb, ne_eqb}
use Rattle.capture.specs.Capture.{lengths_at}
use Rattle.capture.proofs.lengths_at.Goals as goal

pub returns-then-version-eq-SECOND : goal.returns-then-version-eq-SECOND
unfolding lengths_at
returns-then-version-eq-SECOND c = (
  rw (eq-eqb _ _ (sym c.version.ensures ∙ c.if-version-eq-SECOND.true), ← c.range_count.ensures.0),
  omega (arith, c.range_count.ensures.1),
)

pub returns-else-version-eq-SECOND : goal.returns-else-version-eq-SECOND
unfolding lengths_at
returns-else-version-eq-SECOND c = (rw (ne_eqb _ _ (λ e. c.if-version-eq-SECOND.false (c.version.ensures ∙ e))), omega arith)
