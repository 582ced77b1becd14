-- `multiply` meets its contract: after i turns t is, times 2^(32 * i) and modulo n, the product of b with the first i words of a.
use native.Mathlib.Omega.{arith}
use Rattle.rsa.proofs.Values.{zeros}
use Rattle.rsa.proofs.Products.{product_start, product_next, product_end}
use mathlib.Core.Path.{◌∙◌}
use Rattle.rsa.proofs.montgomery.Modulus.multiply.Goals as goal

pub loop-x-init : goal.loop-x-init
loop-x-init c = (
  c.fill.auto.self ∙ c.requires.0.room,
  product_start c.args.self.now.words.now c.fill.new.self c.args.b.now (zeros _ (c.fill.ensures.after (λ y e. e))) c.requires.0.below,
)

pub step-next-requires : goal.step-next-requires
step-next-requires c =
    let b = c.loop-x in
    let o = c.requires.0 in
    (record { room = b.invariant.0; factor = o.factor; below = o.below }, b.invariant.1.0)

pub loop-x-preserved : goal.loop-x-preserved
loop-x-preserved c =
    let b = c.loop-x in
    let next = c.step-next in (
      next.auto.t ∙ b.invariant.0,
      (
        next.ensures.below,
        product_next c.args.self.now.words.now b.t next.new.t c.args.a.now c.args.b.now b.top next.result b.x-index
            c.loop-x-test.true b.invariant.1.1 next.ensures,
      ),
    )

pub returns : goal.returns
returns c =
    let b = c.loop-x in
    product_end c.args.self.now.words.now b.t c.reduce.new.t c.args.a.now c.args.b.now b.top b.x-index (omega (arith, c.requires.0.below))
    c.requires.1 c.loop-x-test.false (omega arith) b.invariant.1.1 c.reduce.ensures
