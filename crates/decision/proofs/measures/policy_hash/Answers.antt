-- `policy_hash` meets its contract: a file that the reader refuses has no lists.
use Rattle.decision.proofs.Walking.{grammar_is}
use Rattle.decision.proofs.Hashing.{hash_of_none}
use Rattle.decision.proofs.measures.policy_hash.Goals as goal

pub hash-requires : goal.hash-requires
hash-requires c = grammar_is _ _ _ c.read.ensures.0 c.in-Ok.is

pub returns-in-Err : goal.returns-in-Err
returns-in-Err c = hash_of_none _ _ (grammar_is _ _ _ c.read.ensures.0 c.in-Err.is) c.digest.ensures
