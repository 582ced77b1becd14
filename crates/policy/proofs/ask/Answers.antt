-- `ask` meets its contract: demand 3, for what the contracts of the five functions say of their results.
use Rattle.policy.proofs.Demand3.{answered}
use Rattle.policy.proofs.ask.Goals as goal

pub returns : goal.returns
returns c =
    answered _ (λ k. (c.type_inv.s k).fits) _ _ _
    c.read.ensures.0 c.list.ensures c.key.ensures c.signature.ensures c.element.ensures
