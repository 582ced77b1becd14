-- `range_count` meets its contract: version 2 has a count.
use mathlib.Core.Path.{sym, ◌∙◌}
use native.Mathlib.Omega.{arith}
use borrow.Author.Tests.{eq-eqb, ne_eqb}
use Rattle.capture.specs.Capture.{range_count}
use Rattle.capture.proofs.range_count.Goals as goal

pub returns-then-version-eq-SECOND : goal.returns-then-version-eq-SECOND
unfolding range_count
returns-then-version-eq-SECOND c = (
  rw (eq-eqb _ _ (sym c.version.ensures ∙ c.if-version-eq-SECOND.true)) c.number_or_zero.ensures.0,
  c.number_or_zero.ensures.1,
)

pub returns-else-version-eq-SECOND : goal.returns-else-version-eq-SECOND
unfolding range_count
returns-else-version-eq-SECOND c = (rw (ne_eqb _ _ (λ e. c.if-version-eq-SECOND.false (c.version.ensures ∙ e))), omega arith)
