-- `fills_body` meets its contract: the bytes are a body exactly where they are read as one.
use Rattle.policy_reader.proofs.Bodies.{fills}
use Rattle.policy_reader.proofs.elements.fills_body.Goals as goal

pub returns : goal.returns
returns c = fills _ _ c.type_inv.body _ c.body_extent.ensures _ c.is_ok.ensures.value
