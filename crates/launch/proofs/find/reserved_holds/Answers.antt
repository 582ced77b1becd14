-- `reserved_holds` meets its contract: the count is tried before the ranges within it, which are among the sixteen.
use mathlib.Core.Path.{sym, ◌∙◌}
use mathlib.Core.Bool.{and-true}
use native.Mathlib.Omega.{arith}
use borrow.Author.Tests.{le-leb}
use lib.Seq.{length-take-le}
use Rattle.rules.specs.Rules.{all}
use Rattle.rules.proofs.Tests.{fails}
use Rattle.launch.specs.Rules.{reserved_tests}
use Rattle.launch.proofs.Conditions.{numbers_within, reserved_exactly}
use borrow.Author.Rules.{rules}
use Rattle.launch.proofs.find.reserved_holds.Goals as goal

pub returns-then-reserved-gt-MOST_RESERVED : goal.returns-then-reserved-gt-MOST_RESERVED
returns-then-reserved-gt-MOST_RESERVED c = fails (reserved_exactly _) (λ h. omega (arith, h.most))

pub slice_bounds-numbers-end : goal.slice_bounds-numbers-end
slice_bounds-numbers-end c = search (rules, numbers_within)

pub slice_bounds-all_meet-end : goal.slice_bounds-all_meet-end
slice_bounds-all_meet-end c = sym (length-take-le _ _ (search (rules, numbers_within)))

pub returns : goal.returns
unfolding all reserved_tests
returns c = rw (le-leb _ _ c.if-reserved-gt-MOST_RESERVED.false) (c.all_meet.ensures ∙ sym (and-true _))
