-- `names` meets its contract: one law for each answer.
use Rattle.decision.proofs.Naming.{no_launch, later_version, launch_names_lem}
use Rattle.decision.proofs.elements.names.Goals as goal

pub returns-in_default : goal.returns-in_default
returns-in_default c = no_launch _ _ _ c.in_default.not-Launch

pub returns-then-k-sinit_min_version : goal.returns-then-k-sinit_min_version
returns-then-k-sinit_min_version c = later_version _ _ _ _ _ _ _ c.in-Launch.is c.if-k-sinit_min_version.true

pub returns : goal.returns
returns c = launch_names_lem _ _ _ _ _ _ _ c.in-Launch.is c.if-k-sinit_min_version.false _ _ c.body-b.ensures c.digests_name.ensures
