-- `put_element` meets its contract: each field behind the one before.
use Rattle.policy_writer.proofs.Buffer.{put_same}
use Rattle.policy_writer.proofs.Elements.{element_put}
use borrow.Author.Rules.{rules}
use Rattle.policy_writer.proofs.parts.put_element.Goals as goal

pub shape_of-out : goal.shape_of-out
shape_of-out c = search (rules, put_same)

pub returns : goal.returns
returns c =
    element_put _ _ _ _ _ _ _ _ _ c.put_number.ensures c.put_number-2.ensures c.put_number-3.ensures c.put_bytes.ensures
