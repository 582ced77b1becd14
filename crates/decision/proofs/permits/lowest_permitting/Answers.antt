-- `lowest_permitting` meets its contract: a file that the reader refuses has no lists, and those of one that it accepts are tried in turn.
use Rattle.decision.proofs.Walking.{grammar_is}
use Rattle.decision.proofs.Lowest.{none_permits}
use Rattle.decision.proofs.permits.lowest_permitting.Goals as goal

pub lowest_in-requires : goal.lowest_in-requires
lowest_in-requires c = grammar_is _ _ _ c.read.ensures.0 c.in-Ok.is

pub returns-in-Err : goal.returns-in-Err
returns-in-Err c = none_permits _ _ (grammar_is _ _ _ c.read.ensures.0 c.in-Err.is)
