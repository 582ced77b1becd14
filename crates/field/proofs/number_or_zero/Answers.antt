-- `number_or_zero` meets its contract: it gives the number of the field that `read` gives.
use Prim.Native.Nat.{ℕ}
use mathlib.Core.Path.{◌≡◌, refl, ap, sym, ◌∙◌}
use Rattle.std.specs.Prelude.{Result, Ok, Err}
use Rattle.std.specs.Result.{result_unwrap_or}
use Rattle.field.specs.declared.Fault.{Fault}
use Rattle.field.specs.Field.{value_of}
use Rattle.field.proofs.number_or_zero.Goals as goal

or_zero : (r : Result ℕ Fault) → result_unwrap_or r 0 ≡ value_of r
unfolding value_of
or_zero (Ok x) = refl
or_zero (Err f) = refl

pub returns : goal.returns
returns c =
    let e = c.unwrap_or.ensures ∙ or_zero c.read.result in
    (e ∙ ap value_of c.read.ensures.0, rw (sym e) at c.read.ensures.1)
