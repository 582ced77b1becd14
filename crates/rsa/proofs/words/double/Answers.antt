-- `double` meets its contract.
use Prim.Native.Nat.{ℕ, ◌*◌}
use Rattle.std.proofs.Common.{arith}
use lib.ListN.{length}
use Rattle.rsa.proofs.Loops.{double_joined}
use Rattle.rsa.proofs.Values.{whole}
use Rattle.rsa.proofs.words.double.Goals as goal

pub returns : goal.returns
returns c =
    let a = c.args in
    let l : ℕ = length a.t.now in
    omega (
      arith,
      c.carried.ensures (λ j w. 2 * w) (λ j w k s hj hw e. omega (arith, e)),
      double_joined a.t.now l (omega arith),
      whole a.t.now l (omega arith),
    )
