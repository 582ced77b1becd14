-- `inverse` meets its contract: n + 1 is a multiple of 2, and each step squares the power of 2.
use Prim.Native.Nat.{◌+◌, ◌*◌, ◌%◌}
use native.Mathlib.Omega.{arith}
use mathlib.Core.Path.{◌≡◌, refl}
use Rattle.rsa.proofs.montgomery.inverse.Goals as goal

pub returns : goal.returns
returns c =
    let a = c.args in
    let e : (a.n * 1 + 1) % 2 ≡ 0 = omega arith in
    let e₁ = c.newton-r1.ensures 2 e refl in
    let e₂ = c.newton-r2.ensures 4 e₁ refl in
    let e₃ = c.newton-r3.ensures 16 e₂ refl in
    let e₄ = c.newton-r4.ensures 256 e₃ refl in
    c.newton.ensures 65536 e₄ refl
