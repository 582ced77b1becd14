-- `names_stm` meets its contract: one law for each answer.
use Rattle.decision.proofs.Naming.{no_stm, stm_names}
use Rattle.decision.proofs.elements.names_stm.Goals as goal

pub returns-in_default : goal.returns-in_default
returns-in_default c = no_stm _ _ _ c.in_default.not-Stm

pub returns : goal.returns
returns c = stm_names _ _ _ _ _ c.in-Stm.is _ _ c.body-b.ensures c.digests_name.ensures
