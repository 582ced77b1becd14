use Prim.Native.Nat.{◌-◌}
use lib.ListN.{length}
use Rattle.policy_reader.proofs.Standing as kinds
use Rattle.policy_reader.proofs.Walk.{Left}
use Rattle.decision.specs.Lists.{lists_of}
use Rattle.decision.proofs.Hashing.{Hashing}
use Rattle.decision.proofs.measures.hash.Given as goal

abbrev pub invariant-loop-at : goal.invariant-loop-at
invariant-loop-at l = Left kinds.list l.file l.at (Hashing (lists_of l.file) l.state)

abbrev pub decreases-loop-at : goal.decreases-loop-at
decreases-loop-at l = length l.file - l.at
