-- `square_radix` meets its contract: R * 2^(2 * l) is squared four times.
use Prim.Native.Nat.{◌+◌, ◌*◌, ◌^◌}
use mathlib.Core.Path.{◌≡◌, ap, ◌∙◌}
use native.Mathlib.Omega.{arith}
use lib.ListN.{length}
use Rattle.rsa.specs.Words.{value, power}
use Rattle.rsa.specs.Montgomery.{radix}
use Rattle.rsa.proofs.Products.{remainder_below, radix_start, radix_squares}
use Rattle.rsa.proofs.montgomery.Modulus.square_radix.Goals as goal

pub double_times-requires : goal.double_times-requires
double_times-requires c =
    let e : power (length c.args.x.now) ≡ radix c.args.self.now.words.now = ap power c.requires.result in
    (c.high_bit.auto.t ∙ c.requires.result, omega (arith, c.high_bit.ensures, e, c.requires.large))

pub square_twice-requires : goal.square_twice-requires
square_twice-requires c =
    let d = c.double_times in
    let h = c.high_bit in
    let n = c.args.self.now.words.now in
    record {
      room = c.requires.scratch;
      factor = d.auto.t ∙ h.auto.t ∙ c.requires.result;
      below = remainder_below _ (2 ^ (2 * length n + 16) * value h.new.t) _ d.ensures (omega (arith, c.requires.large));
    }

pub square_twice-requires-2 : goal.square_twice-requires-2
square_twice-requires-2 c =
    let t = c.square_twice in
    record { room = t.auto.y ∙ c.requires.scratch; factor = t.auto.x ∙ c.double_times.auto.t ∙ c.high_bit.auto.t ∙ c.requires.result; below = t.ensures.0 }

pub returns : goal.returns
returns c =
    let n = c.args.self.now.words.now in
    let e : power (length c.args.x.now) ≡ radix n = ap power c.requires.result in
    let t = c.square_twice in
    let u = c.square_twice-2 in
    let d = c.double_times in
    let h = c.high_bit in
    radix_squares n (value d.new.t) (value t.new.x) (value u.new.x)
    (radix_start n (value h.new.t) (value d.new.t) (h.ensures ∙ e) d.ensures) t.ensures.1 u.ensures.1
