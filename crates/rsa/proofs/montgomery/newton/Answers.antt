-- `newton` meets its contract: n * x + 1 is the square of n * r + 1 modulo 2^32.
use Rattle.rsa.proofs.Modulo.{squared}
use native.Mathlib.Nat.{add-zero}
use Rattle.rsa.proofs.montgomery.newton.Goals as goal

pub returns : goal.returns
returns c = λ d m z.
    let a = c.args in
    squared a.n a.r c.low-2.result c.low.result d
    (rw add-zero at (rw c.accumulated.ensures at c.low.ensures))
    (rw (add-zero, add-zero) at (rw c.accumulated-2.ensures at c.low-2.ensures))
    m z
