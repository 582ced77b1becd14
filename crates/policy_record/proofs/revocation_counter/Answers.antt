-- `revocation_counter` meets its contract: the number at the counter's offset.
use Rattle.policy_record.proofs.revocation_counter.Goals as goal

pub returns : goal.returns
returns c = c.number_or_zero.ensures.0
