-- `walk` meets its contract: the ranges within the count are among the sixteen.
use mathlib.Core.Path.{sym}
use lib.Seq.{length-take-le}
use Rattle.launch.proofs.Conditions.{numbers_within}
use borrow.Author.Rules.{rules}
use Rattle.launch.proofs.find.walk.Goals as goal

pub slice_bounds-numbers-end : goal.slice_bounds-numbers-end
slice_bounds-numbers-end c = search (rules, numbers_within)

pub slice_bounds-walk-end : goal.slice_bounds-walk-end
slice_bounds-walk-end c = sym (length-take-le _ _ (search (rules, numbers_within)))
