use Prim.Native.Nat.{◌≤◌, ◌<◌, ◌^◌}
use mathlib.Core.Path.{◌≡◌}
use mathlib.Core.List.{◌++◌}
use lib.ListN.{length, drop}
use Rattle.answer_text.specs.Text.{digits, decimal}
use Rattle.answer_text.proofs.digits.decimal.Given as goal

abbrev pub invariant-loop-left : goal.invariant-loop-left
invariant-loop-left l =
    (1 ≤ l.start) × (l.start ≤ 10) × (l.left < 10 ^ l.start) × (length l.bytes ≡ 10) × (digits l.start l.left ++ drop l.start l.bytes ≡ decimal l.n)

abbrev pub decreases-loop-left : goal.decreases-loop-left
decreases-loop-left l = l.start
