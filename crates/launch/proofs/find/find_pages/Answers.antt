-- `find_pages` meets its contract: rules 12 to 20, and what is left.
use mathlib.Core.Path.{ap, sym, ◌∙◌}
use borrow.Author.Tests.{leb-true, leb-false}
use Rattle.std.proofs.lemmas.Result.{err_from_is_err_and}
use Rattle.rules.specs.declared.refusal.Refusal.TheVariants as refusals
use Rattle.rules.specs.Refusal.{numbered}
use Rattle.rules.proofs.Refusals.{goes_on, returned_required, returned_from}
use Rattle.launch.proofs.Finding.{size_refuses, room_refuses, walk_refuses, walk_passes}
use Rattle.launch.proofs.find.find_pages.Goals as goal

pub returns-in_err-require : goal.returns-in_err-require
returns-in_err-require c =
    let r = returned_required _ refusals.MleSize (err_from_is_err_and c.from_residual.result c.from_residual.ensures.1) c.require.ensures c.in_err-require.was in
    r.1 ∙ size_refuses _ _ _ _ _ (sym c.size_holds.ensures ∙ r.0)

pub returns-in_err-require-2 : goal.returns-in_err-require-2
returns-in_err-require-2 c =
    let size = sym c.size_holds.ensures ∙ goes_on _ _ _ c.require.ensures c.in_ok-require.was in
    let p = err_from_is_err_and c.from_residual-in_err-require-2.result c.from_residual-in_err-require-2.ensures.1 in
    let r = returned_required _ refusals.PageList p c.require-2.ensures c.in_err-require-2.was in
    r.1 ∙ room_refuses _ _ _ _ _ size (leb-false _ _ r.0)

pub returns-in_err-mapped : goal.returns-in_err-mapped
returns-in_err-mapped c =
    let size = sym c.size_holds.ensures ∙ goes_on _ _ _ c.require.ensures c.in_ok-require.was in
    let room = leb-true _ _ (goes_on _ _ _ c.require-2.ensures c.in_ok-require-2.was) in
    let p = err_from_is_err_and c.from_residual-in_err-mapped.result c.from_residual-in_err-mapped.ensures.1 in
    let r = returned_from p c.in_err-mapped.was c.walk.ensures in
    r.0 ∙ walk_refuses _ _ _ _ _ size room _ r.1

pub returns : goal.returns
returns c =
    let size = sym c.size_holds.ensures ∙ goes_on _ _ _ c.require.ensures c.in_ok-require.was in
    let room = leb-true _ _ (goes_on _ _ _ c.require-2.ensures c.in_ok-require-2.was) in
    c.find_image.ensures ∙ walk_passes _ _ _ _ _ size room _ _ (sym c.walk.ensures ∙ ap numbered c.in_ok-mapped.was)
