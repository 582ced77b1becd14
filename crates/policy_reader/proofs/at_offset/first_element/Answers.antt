-- `first_element` meets its contract: one law for each answer.
use Rattle.policy_reader.proofs.ReadExtents.{was_ok}
use Rattle.policy_reader.proofs.ElementNumbers.{answers_element}
use Rattle.policy_reader.proofs.at_offset.first_element.Goals as goal

pub returns : goal.returns
returns c =
    answers_element _ _ c.type_inv.t _ c.element_extent.ensures _ (was_ok _ c.ok.ensures.value c.in_ok-size.was)
    _ _ c.number-2.ensures.0 c.number.ensures.0 _ c.body.ensures
