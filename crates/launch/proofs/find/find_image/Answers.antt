-- `find_image` meets its contract: rules 21 and 22.
use mathlib.Core.Path.{sym, ◌∙◌}
use borrow.Author.Tests.{eqb-true, eqb-false}
use Rattle.std.proofs.lemmas.Result.{err_from_is_err_and}
use Rattle.rules.specs.declared.refusal.Refusal.TheVariants as refusals
use Rattle.rules.proofs.Refusals.{goes_on, returned_required}
use Rattle.launch.proofs.Finding.{count_refuses, header_refuses, header_passes}
use Rattle.launch.proofs.find.find_image.Goals as goal

pub returns-in_err-require : goal.returns-in_err-require
returns-in_err-require c =
    let r = returned_required _ refusals.PageCount (err_from_is_err_and c.from_residual.result c.from_residual.ensures.1) c.require.ensures c.in_err-require.was in
    r.1 ∙ count_refuses _ _ _ _ (eqb-false _ _ r.0)

pub returns-in_err-require-2 : goal.returns-in_err-require-2
returns-in_err-require-2 c =
    let counted = eqb-true _ _ (goes_on _ _ _ c.require.ensures c.in_ok-require.was) in
    let p = err_from_is_err_and c.from_residual-in_err-require-2.result c.from_residual-in_err-require-2.ensures.1 in
    let r = returned_required _ refusals.MleHeader p c.require-2.ensures c.in_err-require-2.was in
    r.1 ∙ header_refuses _ _ _ _ counted (sym c.header_holds.ensures ∙ r.0)

pub returns : goal.returns
returns c =
    let counted = eqb-true _ _ (goes_on _ _ _ c.require.ensures c.in_ok-require.was) in
    header_passes _ _ _ _ counted (sym c.header_holds.ensures ∙ goes_on _ _ _ c.require-2.ensures c.in_ok-require-2.was) _ c.found.ensures
