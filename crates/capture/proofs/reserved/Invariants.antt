use Prim.Native.Nat.{◌*◌}
use mathlib.Core.Path.{◌≡◌}
use Rattle.launch.specs.Rules.{most_reserved}
use Rattle.capture.specs.Capture.{ranges_at}
use Rattle.capture.proofs.Ranges.{filled}
use Rattle.capture.proofs.reserved.Given as goal

abbrev pub invariant-loop-k : goal.invariant-loop-k
invariant-loop-k l = l.numbers ≡ filled l.s ranges_at (2 * most_reserved) l.k
