-- `row_of` meets its contract. The loop's invariant: the row is still to be found among the rows that are left.
use Prim.Native.Nat.{ℕ, ◌+◌, ◌≤◌, ◌<◌}
use mathlib.Core.Path.{◌≡◌, sym, ◌∙◌}
use mathlib.Core.List.{List}
use native.Mathlib.Numerals.{add-one}
use native.Mathlib.Omega.{arith}
use borrow.Author.Tests.{eq-eqb, ne_eqb}
use lib.ListN.{length, drop, get_or, drop_of_length-le}
use lib.Seq.{drop-cons}
use Rattle.sinit.specs.declared.header.Edition.{Edition}
use Rattle.sinit.specs.Module.{first, editions, row_of}
use Rattle.sinit.proofs.header.row_of.Goals as goal

-- the laws hold of any table
module _ (v : ℕ) (other d : Edition) (rows : List Edition) (i : ℕ) where
  has : i < length rows → (get_or rows i d).version ≡ v → row_of v other (drop i rows) ≡ get_or rows i d
  unfolding row_of
  has h e = rw (drop-cons rows i d h, eq-eqb _ _ e)

  passes : i < length rows → ((get_or rows i d).version ≡ v → ⊥) → row_of v other (drop (i + 1) rows) ≡ row_of v other (drop i rows)
  unfolding row_of
  passes h n = rw (drop-cons rows i d h, ne_eqb _ _ n, add-one)

  ends : length rows ≤ i → row_of v other (drop i rows) ≡ other
  unfolding row_of
  ends h = rw (drop_of_length-le rows h)

pub returns-then-row-version : goal.returns-then-row-version
returns-then-row-version c =
    sym (has c.args.version first _ editions c.loop-row.row-index (omega arith) c.if-row-version.true) ∙ c.loop-row.invariant

pub loop-row-preserved : goal.loop-row-preserved
loop-row-preserved c =
    passes c.args.version first _ editions c.loop-row.row-index (omega arith) c.if-row-version.false ∙ c.loop-row.invariant

pub returns : goal.returns
returns c =
    sym (ends c.args.version first first editions c.loop-row.row-index (omega arith)) ∙ c.loop-row.invariant
