-- `hash_of` meets its contract.
use Rattle.policy_writer.proofs.Answered.{hash_front}
use Rattle.policy_writer.proofs.hash_of.Goals as goal

pub returns : goal.returns
returns c = hash_front _ c.args.out.now c.args.size c.policy_hash.ensures
