use Prim.Native.Nat.{◌+◌, ◌*◌, ◌-◌}
use mathlib.Core.Path.{◌≡◌}
use Rattle.decision.proofs.Digests.{named_from}
use Rattle.decision.proofs.elements.named.Given as goal

abbrev pub invariant-loop-k : goal.invariant-loop-k
invariant-loop-k l = named_from l.digest l.b l.start l.count ≡ named_from l.digest l.b (l.start + 32 * l.k) (l.count - l.k)
