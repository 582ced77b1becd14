-- `read` meets its contract: an entry of a table inside the window is a number of 8 bytes there.
use mathlib.Core.Path.{sym, ◌∙◌}
use native.Mathlib.Omega.{arith}
use Rattle.range.proofs.Ranges.{inside_bounds}
use Rattle.pages.proofs.tables.Tables.read.Goals as goal

pub overflow_sub-a : goal.overflow_sub-a
overflow_sub-a c = ((inside_bounds _ _).0 (sym c.has_page.ensures ∙ c.if-not-has_page.false)).0

pub overflow_add-a : goal.overflow_add-a
overflow_add-a c = omega (arith, (inside_bounds _ _).0 (sym c.has_page.ensures ∙ c.if-not-has_page.false))
