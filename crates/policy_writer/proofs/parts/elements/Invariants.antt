use Prim.Native.Nat.{◌-◌, ◌≤◌, ◌^◌}
use mathlib.Core.Path.{◌≡◌}
use Rattle.policy_writer.specs.Decode.{element}
use Rattle.policy_writer.proofs.Rows.{Going}
use Rattle.policy_writer.proofs.parts.elements.Given as goal

abbrev pub invariant-loop : goal.invariant-loop
invariant-loop l = Going element l.numbers l.bodies l.initial.c l.count l.initial.out l.c l.counter l.out × ((l.first ≡ l.initial.c.bytes) × ((l.c.bytes - l.first ≤ 0xFFFFFFFF) × (l.initial.c.bytes ≤ 2 ^ 39)))
