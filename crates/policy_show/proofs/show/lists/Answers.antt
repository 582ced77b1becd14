-- A list that was read ends within the string.
use Rattle.std.proofs.Common.{sym, ◌∙◌, arith}
use Rattle.policy_reader.proofs.Standing.{list_ends}
use Rattle.policy_show.proofs.show.lists.Goals as goal

pub overflow_add-at : goal.overflow_add-at
overflow_add-at g c =
    let w = list_ends _ _ c.type_inv.s _ (sym c.list_at.ensures.0 ∙ c.in-Some.is) in
    record { fits = omega (arith, w.1) }
