-- `raise` meets its contract: after k turns x is R * s^(4^k) modulo n.
use mathlib.Core.Path.{◌∙◌}
use native.Mathlib.Omega.{arith}
use Rattle.rsa.specs.Words.{value}
use Rattle.rsa.proofs.Products.{raise_start, raise_next, raise_end}
use Rattle.rsa.proofs.montgomery.Modulus.raise.Goals as goal

pub square_radix-requires : goal.square_radix-requires
square_radix-requires c = record { result = c.requires.result; scratch = c.requires.scratch; large = c.requires.large }

pub multiply-requires : goal.multiply-requires
multiply-requires c =
    let q = c.square_radix in
    (record { room = q.auto.y ∙ c.requires.scratch; factor = c.requires.long; below = c.requires.below }, q.auto.x ∙ c.requires.result)

pub loop-k-init : goal.loop-k-init
loop-k-init c =
    let q = c.square_radix in
    let m = c.multiply in (
      omega arith,
      (
        (q.auto.x ∙ c.requires.result, m.auto.t ∙ q.auto.y ∙ c.requires.scratch),
        (m.ensures.below, raise_start c.args.self.now.words.now q.new.x m.new.t c.args.s.now c.args.self.now.odd q.ensures m.ensures),
      ),
    )

pub square_twice-requires : goal.square_twice-requires
square_twice-requires c =
    let i = c.loop-k.invariant.1 in
    record { room = i.0.0; factor = i.0.1; below = i.1.0 }

pub loop-k-preserved : goal.loop-k-preserved
loop-k-preserved c =
    let b = c.loop-k in
    let t = c.square_twice in (
      omega (arith, c.loop-k-test.true),
      (
        (t.auto.y ∙ b.invariant.1.0.0, t.auto.x ∙ b.invariant.1.0.1),
        (t.ensures.0, raise_next c.args.self.now.words.now (value b.x) (value t.new.x) (value c.args.s.now) b._k b.invariant.1.1.1 t.ensures.1),
      ),
    )

pub multiply-requires-2 : goal.multiply-requires-2
multiply-requires-2 c =
    let i = c.loop-k.invariant.1 in
    (record { room = i.0.0; factor = c.requires.long; below = c.requires.below }, i.0.1)

pub returns : goal.returns
returns c =
    let b = c.loop-k in
    let m = c.multiply-2 in
    raise_end c.args.self.now.words.now b.x m.new.t c.args.s.now b._k c.args.self.now.odd b.invariant.0 c.loop-k-test.false b.invariant.1.1.1 m.ensures
