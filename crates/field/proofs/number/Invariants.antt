use Rattle.std.proofs.Common.{◌≡◌, ◌-◌, length, drop}
use Rattle.field.specs.Number as spec
use Rattle.field.proofs.number.Given as goal

abbrev pub invariant-loop-k : goal.invariant-loop-k
invariant-loop-k l = l.x ≡ spec.number (length l.bytes - l.k) (drop l.k l.bytes)
