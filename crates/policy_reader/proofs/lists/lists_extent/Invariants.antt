use Prim.Native.Nat.{◌≤◌}
use lib.ListN.{length}
use Rattle.policy_reader.proofs.Rows.{Lists}
use Rattle.policy_reader.proofs.lists.lists_extent.Given as goal

abbrev pub invariant-loop : goal.invariant-loop
invariant-loop l = (l.at ≤ length l.t) × Lists l.t l.n l.at l.counter
