use Prim.Native.Nat.{◌≤◌, ◌-◌}
use mathlib.Core.Path.{◌≡◌}
use lib.ListN.{length}
use Rattle.policy.specs.Inner.{walked}
use Rattle.policy.proofs.numbered.numbered.Given as goal

abbrev pub invariant-loop : goal.invariant-loop
invariant-loop g l = (l.at ≤ length l.s) × (walked g.T.Standing.read g.T.Standing.size l.s l.start l.k ≡ walked g.T.Standing.read g.T.Standing.size l.s l.at (l.k - l.counter))
