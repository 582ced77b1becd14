-- `elements_extent` meets its contract. The invariant: what the elements that are left give, so many bytes on, is what the whole gives.
use mathlib.Core.Path.{refl, ap}
use Rattle.policy_reader.specs.Inner.{further, end}
use native.Mathlib.Omega.{arith}
use Rattle.policy_reader.proofs.Rows.{elements_start, elements_on, elements_stop, elements_less, elements_end_lem, row_fits, row_within}
use borrow.Author.Rules.{rules}
use Rattle.policy_reader.proofs.elements.elements_extent.Goals as goal

pub loop-at-init : goal.loop-at-init
loop-at-init c = (search rules, search (rules, elements_start))

pub overflow_add-at : goal.overflow_add-at
overflow_add-at c = record { fits = omega (arith, ap end c.in-Ok.is, row_fits _ _ _ _ c.element_extent.ensures c.loop-at.invariant.0) }

pub loop-at-smaller : goal.loop-at-smaller
loop-at-smaller c = elements_less _ c.type_inv.t _ c.loop-at-test.true _ c.element_extent.ensures _ refl _ (ap (further _) c.in-Ok.is)

pub loop-at-preserved : goal.loop-at-preserved
loop-at-preserved c =
    let e = ap (further c.loop-at.at) c.in-Ok.is in (
      row_within _ _ _ _ c.element_extent.ensures _ refl _ e c.loop-at.invariant.0,
      elements_on _ c.type_inv.t _ c.loop-at-test.true _ c.element_extent.ensures _ refl _ e c.loop-at.invariant.1,
    )

pub overflow_add-result : goal.overflow_add-result
overflow_add-result c = record { fits = omega (arith, ap end c.in-Err.is, row_fits _ _ _ _ c.element_extent.ensures c.loop-at.invariant.0) }

pub returns-in-Err : goal.returns-in-Err
returns-in-Err c =
    elements_stop _ c.type_inv.t _ c.loop-at-test.true _ c.element_extent.ensures _ refl _ (ap (further c.loop-at.at) c.in-Err.is) c.loop-at.invariant.1

pub returns : goal.returns
returns c = search (rules, elements_end_lem)
