use Prim.Native.Nat.{◌-◌, ◌≤◌}
use mathlib.Core.Path.{◌≡◌}
use lib.ListN.{length}
use Rattle.policy_reader.proofs.Standing as kinds
use Rattle.policy_reader.proofs.Walk.{Left}
use Rattle.decision.specs.Lists.{lists_of}
use Rattle.decision.specs.Answers.{criteria_of}
use Rattle.decision.proofs.Lowest.{Lowest}
use Rattle.decision.proofs.permits.lowest_in.Given as goal

abbrev pub invariant-loop-at : goal.invariant-loop-at
invariant-loop-at l =
    (l.i ≤ l.at) × (l.lists.file.now ≡ l.file) × (l.lists.criteria ≡ l.k) × Left kinds.list l.file l.at (Lowest (criteria_of l.k) (lists_of l.file) l.i)

abbrev pub decreases-loop-at : goal.decreases-loop-at
decreases-loop-at l = length l.file - l.at
