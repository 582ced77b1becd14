-- With each turn less of the message is left, or the next part is longer.
use Rattle.std.proofs.Common.{◌+◌, ◌-◌, ◌<◌, ◌≤◌, length}
use Rattle.fips_vectors.proofs.in_parts.Given as goal

abbrev pub invariant-loop-size : goal.invariant-loop-size
invariant-loop-size l = (length l.rest ≤ length l.m) × (0 < l.size + l.more)

abbrev pub decreases-loop-size : goal.decreases-loop-size
decreases-loop-size l = length l.rest + (length l.m - l.size)
