-- `find` meets its contract: rules 1 to 11, and what is left.
use mathlib.Core.Path.{ap, sym, ◌∙◌}
use Rattle.std.proofs.lemmas.Result.{err_from_is_err_and}
use Rattle.rules.specs.declared.refusal.Refusal.TheVariants as refusals
use Rattle.rules.specs.Refusal.{numbered}
use Rattle.rules.proofs.Refusals.{goes_on, returned_required, returned_from}
use Rattle.launch.proofs.Conditions.{platform_exactly}
use Rattle.launch.proofs.Finding.{platform_refuses, heap_refuses, module_refuses, module_passes}
use Rattle.launch.proofs.find.find.Goals as goal

pub returns-in_err-require : goal.returns-in_err-require
returns-in_err-require c =
    let r = returned_required _ refusals.Limits (err_from_is_err_and c.from_residual.result c.from_residual.ensures.1) c.require.ensures c.in_err-require.was in
    r.1 ∙ platform_refuses _ _ _ _ _ _ _ (sym c.platform_holds.ensures ∙ r.0)

pub returns-in_err-o : goal.returns-in_err-o
returns-in_err-o c =
    let platform = sym c.platform_holds.ensures ∙ goes_on _ _ _ c.require.ensures c.in_ok-require.was in
    let p = err_from_is_err_and c.from_residual-in_err-o.result c.from_residual-in_err-o.ensures.1 in
    let r = returned_from p c.in_err-o.was c.read.ensures in
    r.0 ∙ heap_refuses _ _ _ _ _ _ _ platform _ r.1

pub returns-in_err-m : goal.returns-in_err-m
returns-in_err-m c =
    let platform = sym c.platform_holds.ensures ∙ goes_on _ _ _ c.require.ensures c.in_ok-require.was in
    let os = sym c.read.ensures ∙ ap numbered c.in_ok-o.was in
    let p = err_from_is_err_and c.from_residual-in_err-m.result c.from_residual-in_err-m.ensures.1 in
    let r = returned_from p c.in_err-m.was (rw c.chipset.ensures at c.read-2.ensures) in
    r.0 ∙ module_refuses _ _ _ _ _ _ _ platform _ os _ r.1

pub find_pages-requires : goal.find_pages-requires
find_pages-requires c =
    ((platform_exactly _ _ _ _).0 (sym c.platform_holds.ensures ∙ goes_on _ _ _ c.require.ensures c.in_ok-require.was)).reserved.most

pub returns : goal.returns
returns c =
    let platform = sym c.platform_holds.ensures ∙ goes_on _ _ _ c.require.ensures c.in_ok-require.was in
    let os = sym c.read.ensures ∙ ap numbered c.in_ok-o.was in
    c.find_pages.ensures
    ∙ module_passes _ _ _ _ _ _ _ platform _ os _ (sym (rw c.chipset.ensures at c.read-2.ensures) ∙ ap numbered c.in_ok-m.was) _ c.memory-memory.ensures
