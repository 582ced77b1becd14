use Prim.Native.Nat.{◌+◌, ◌*◌, ◌≤◌, ◌<◌}
use Rattle.policy_writer.specs.Decode.{list}
use Rattle.policy_writer.proofs.Rows.{Going}
use Rattle.policy_writer.proofs.parts.lists.Given as goal

abbrev pub invariant-loop : goal.invariant-loop
invariant-loop l = Going list l.numbers l.bodies l.initial.c l.count l.initial.out l.c l.counter l.out × ((l.c.bytes ≤ 36 + 4294967304 * l.counter) × (l.count < 9))
