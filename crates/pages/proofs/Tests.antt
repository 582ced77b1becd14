-- What the tests of the code say: rule 19, and what is read of a table.
use Prim.Native.Nat.{ℕ, ◌+◌, ◌*◌, ◌-◌, ◌<◌}
use mathlib.Core.Path.{◌≡◌}
use mathlib.Core.Logic.{◌↔◌, ◌⊎◌}
use mathlib.Core.Bool.{true}
use mathlib.Core.List.{List}
use borrow.Author.Tests.{lt-ltb}
use Rattle.field.specs.Field.{number_at}
use Rattle.range.specs.Range.{inside_of}
use Rattle.rules.proofs.Tests.{eqb_exactly, or_exactly}
use Rattle.pages.specs.Memory.{page_of, window_of}
use Rattle.pages.specs.Tables.{read_of}
use Rattle.pages.specs.Rules.{follows}

pub follows_exactly : (first count l : ℕ) → (follows first count l ≡ true) ↔ ((count ≡ 0) ⊎ (l ≡ first + count))
unfolding follows
follows_exactly first count l = or_exactly (eqb_exactly _ _) (eqb_exactly _ _)

pub read_inside : (w : List ℕ) (base a n i : ℕ) → i < n → inside_of (page_of a) (window_of w base) ≡ true → number_at w (a - base + 8 * i) 8 ≡ read_of w base a n i
unfolding read_of
read_inside w base a n i h g = simp (lt-ltb i n h, g)
