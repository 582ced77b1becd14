-- `double` meets its contract.
use Prim.Native.Nat.{ℕ, ◌%◌}
use lib.ListN.{length}
use Rattle.rsa.specs.Words.{value, power}
use Rattle.rsa.specs.Montgomery.{radix}
use mathlib.Core.Path.{◌≡◌, ap, ◌∙◌}
use Rattle.rsa.proofs.montgomery.Modulus.double.Goals as goal

pub returns : goal.returns
returns c =
    let e : power (length c.args.t.now) ≡ radix c.args.self.now.words.now = ap power c.requires.0 in
    let f = rw e at c.double-top.ensures in
    c.reduce.ensures ∙ ap (λ (z : ℕ). z % value c.args.self.now.words.now) f
