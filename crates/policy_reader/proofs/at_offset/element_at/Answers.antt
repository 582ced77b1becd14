-- `element_at` meets its contract: past the string there is no element, and elsewhere it is the one at the front of what is left.
use Rattle.policy_answers.proofs.Slices.{past_end, rest_is}
use Rattle.policy_reader.proofs.Offsets.{element_past, element_front}
use Rattle.policy_reader.proofs.at_offset.element_at.Goals as goal

pub returns-in_err-get : goal.returns-in_err-get
returns-in_err-get c = element_past _ _ c.type_inv.s (past_end _ _ _ c.get.ensures.lookup c.in_err-get.was) _ c.from_residual.ensures

pub returns : goal.returns
returns c = element_front _ _ c.type_inv.s _ (rest_is _ _ _ c.get.ensures.lookup _ c.in_ok-get.was).0 _ c.first_element.ensures
