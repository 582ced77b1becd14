-- An element that was read ends within the string.
use Rattle.std.proofs.Common.{sym, ◌∙◌, arith}
use Rattle.policy_reader.proofs.Standing.{element_ends}
use Rattle.policy_show.proofs.show.elements_from.Goals as goal

pub overflow_add-at : goal.overflow_add-at
overflow_add-at g c =
    let w = element_ends _ _ c.type_inv.s _ (sym c.element_at.ensures.0 ∙ c.in-Some.is) in
    record { fits = omega (arith, w.1) }
