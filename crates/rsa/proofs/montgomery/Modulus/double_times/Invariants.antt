use Prim.Native.Nat.{◌*◌, ◌%◌, ◌^◌, ◌≤◌}
use mathlib.Core.Path.{◌≡◌}
use lib.ListN.{length}
use Rattle.rsa.specs.Words.{value}
use Rattle.rsa.proofs.montgomery.Modulus.double_times.Given as goal

abbrev pub invariant-loop-k : goal.invariant-loop-k
invariant-loop-k l = (l._k ≤ l.count) × ((length l.t ≡ length l.self.words.now) × (value l.t ≡ 2 ^ l._k * value l.initial.t % value l.self.words.now))
