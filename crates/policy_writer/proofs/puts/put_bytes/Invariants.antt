use Prim.Native.Nat.{◌≤◌}
use lib.ListN.{drop}
use Rattle.policy_writer.proofs.Buffer.{Left}
use Rattle.policy_writer.proofs.puts.put_bytes.Given as goal

abbrev pub invariant-loop-k : goal.invariant-loop-k
invariant-loop-k l = (l.k ≤ l.n) × Left l.initial.out l.out l.at l.k (drop l.k l.s) l.s
