use Prim.Native.Nat.{◌*◌, ◌%◌, ◌<◌}
use lib.ListN.{length, take}
use Rattle.rsa.specs.Words.{value, power}
use Rattle.rsa.specs.Montgomery.{extended}
use mathlib.Core.Path.{◌≡◌}
use Rattle.rsa.proofs.montgomery.Modulus.multiply.Given as goal

abbrev pub invariant-loop-x : goal.invariant-loop-x
invariant-loop-x l =
    (length l.t ≡ length l.self.words.now)
    × ((extended l.self.words.now l.t l.top < 2 * value l.self.words.now) × (power l.x-index * extended l.self.words.now l.t l.top % value l.self.words.now ≡ value (take l.x-index l.a) * value l.b % value l.self.words.now))
