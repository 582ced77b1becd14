-- `row` meets its contract.
use Prim.Native.Nat.{ℕ, ◌+◌, ◌*◌}
use Rattle.std.proofs.Common.{arith}
use lib.ListN.{length, get_or}
use Rattle.rsa.proofs.Loops.{row_joined}
use Rattle.rsa.proofs.Values.{whole}
use Rattle.rsa.proofs.words.row.Goals as goal

pub returns : goal.returns
returns c =
    let a = c.args in
    let l : ℕ = length a.t.now in
    rw (← whole a.t.now l (omega arith), ← whole a.b.now l (omega arith))
    (omega (
      arith,
      c.carried.ensures (λ j w. a.x * get_or a.b.now j 0 + w) (λ j w k s hj hw e. omega (arith, e)),
      row_joined a.t.now a.x a.b.now c.requires l (omega arith),
    ))
