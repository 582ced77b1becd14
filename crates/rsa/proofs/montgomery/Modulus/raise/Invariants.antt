use Prim.Native.Nat.{◌*◌, ◌%◌, ◌^◌, ◌≤◌, ◌<◌}
use mathlib.Core.Path.{◌≡◌}
use lib.ListN.{length}
use Rattle.rsa.specs.Words.{value}
use Rattle.rsa.specs.Montgomery.{radix}
use Rattle.rsa.proofs.montgomery.Modulus.raise.Given as goal

abbrev pub invariant-loop-k : goal.invariant-loop-k
invariant-loop-k l =
    (l._k ≤ 8) × (((length l.y ≡ length l.self.words.now) × (length l.x ≡ length l.self.words.now)) × ((value l.x < value l.self.words.now) × (value l.x ≡ radix l.self.words.now * value l.s ^ (4 ^ l._k) % value l.self.words.now)))
