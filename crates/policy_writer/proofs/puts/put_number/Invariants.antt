use Prim.Native.Nat.{◌≤◌, ◌-◌}
use Rattle.field.specs.Number.{bytes}
use Rattle.policy_writer.proofs.Buffer.{Left}
use Rattle.policy_writer.proofs.puts.put_number.Given as goal

abbrev pub invariant-loop-k : goal.invariant-loop-k
invariant-loop-k l = (l.k ≤ l.last) × Left l.initial.out l.out l.at l.k (bytes (l.width - l.k) l.left) (bytes l.width l.x)
