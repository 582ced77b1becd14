-- `double_times` meets its contract: after k turns it is 2^k times the number.
use Prim.Native.Nat.{◌*◌, ◌^◌}
use mathlib.Core.Path.{◌≡◌, ◌∙◌}
use native.Mathlib.Omega.{arith}
use Rattle.rsa.specs.Words.{value}
use Rattle.rsa.proofs.Products.{remainder_below, times_start, times_next}
use Rattle.rsa.proofs.montgomery.Modulus.double_times.Goals as goal

pub loop-k-init : goal.loop-k-init
loop-k-init c =
    (omega arith, (c.requires.0, times_start (value c.args.t.now) (value c.args.self.now.words.now) c.requires.1))

pub double-requires : goal.double-requires
double-requires c =
    (c.loop-k.invariant.1.0, remainder_below _ (2 ^ c.loop-k._k * value c.args.t.now) _ c.loop-k.invariant.1.1 (omega (arith, c.requires.1)))

pub loop-k-preserved : goal.loop-k-preserved
loop-k-preserved c = (
  omega arith,
  (
    c.double.auto.t ∙ c.loop-k.invariant.1.0,
    times_next c.loop-k._k (value c.args.t.now) (value c.args.self.now.words.now) c.loop-k.invariant.1.1 c.double.ensures,
  ),
)

pub returns : goal.returns
returns c =
    let e : c.loop-k._k ≡ c.args.count = omega arith in
    rw e at c.loop-k.invariant.1.1
