-- `reserved` meets its contract: after k turns the first k numbers stand at the front, and zeros behind them.
use Prim.Native.Nat.{◌*◌}
use mathlib.Core.Path.{◌≡◌}
use native.Mathlib.Omega.{arith}
use Rattle.launch.specs.Rules.{most_reserved}
use Rattle.capture.specs.Capture.{ranges_at}
use Rattle.capture.proofs.Ranges.{none_filled, one_filled, all_filled}
use Rattle.capture.proofs.reserved.Goals as goal

pub loop-k-init : goal.loop-k-init
loop-k-init c = none_filled _ ranges_at (2 * most_reserved)

pub loop-k-preserved : goal.loop-k-preserved
loop-k-preserved c =
    rw c.loop-k.invariant (one_filled _ ranges_at (2 * most_reserved) _ _ (omega (arith, c.range_count-count.ensures.0, c.requires)) c.number_or_zero.ensures.0)

pub returns : goal.returns
returns c =
    let n = c.range_count-count.result in
    let all : c.loop-k.k ≡ 2 * n = omega arith in
    all_filled _ n _ c.range_count-count.ensures.0 (rw all at c.loop-k.invariant)
