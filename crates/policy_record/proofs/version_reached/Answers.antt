-- `version_reached` meets its contract.
use Rattle.policy_record.specs.Record.{version_reached}
use Rattle.policy_record.proofs.version_reached.Goals as goal

pub returns : goal.returns
unfolding version_reached
returns c = rw c.number_or_zero.ensures.0
