use Prim.Native.Nat.{◌*◌}
use lib.ListN.{take}
use Rattle.rsa.specs.Words.{value}
use Rattle.field.specs.Number.{number}
use Rattle.rsa.proofs.Loops.{Going}
use mathlib.Core.Path.{◌≡◌}
use Rattle.rsa.proofs.words.load.Given as goal

abbrev pub invariant-loop-j : goal.invariant-loop-j
invariant-loop-j l = Going l.initial.t l.t l.j × (value (take l.j l.t) ≡ number (4 * l.j) l.s)
