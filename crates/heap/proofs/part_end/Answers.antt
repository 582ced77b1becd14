-- `part_end` meets its contract: the end of a part that fits is inside the heap.
use native.Mathlib.Omega.{arith}
use mathlib.Core.Path.{sym, ◌∙◌}
use Rattle.rules.proofs.Refusals.{held}
use Rattle.heap.proofs.Sizes.{fits_exactly}
use Rattle.heap.proofs.part_end.Goals as goal

pub overflow_add-result : goal.overflow_add-result
overflow_add-result c =
    omega (arith, (fits_exactly _ _ _).0 (sym c.size_fits.ensures ∙ held _ _ c.in_ok-require.ensures))
