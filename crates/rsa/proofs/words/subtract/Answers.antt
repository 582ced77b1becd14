-- `subtract` meets its contract.
use Prim.Native.Nat.{ℕ, ◌+◌, ◌-◌}
use Rattle.std.proofs.Common.{arith}
use lib.ListN.{length, get_or}
use Rattle.rsa.proofs.Loops.{subtract_joined}
use Rattle.rsa.proofs.Values.{whole}
use Rattle.rsa.proofs.words.subtract.Goals as goal

pub returns : goal.returns
returns c =
    let a = c.args in
    let l : ℕ = length a.t.now in
    omega (
      arith,
      c.carried.ensures (λ j w. w + (4294967295 - get_or a.n.now j 0)) (λ j w k s hj hw e. omega (arith, e)),
      subtract_joined a.t.now a.n.now c.requires (λ i. (c.type_inv.n i).fits) l (omega arith),
      whole a.t.now l (omega arith),
      whole a.n.now l (omega arith),
    )
