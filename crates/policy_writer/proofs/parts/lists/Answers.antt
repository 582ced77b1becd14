-- `lists` meets its contract. The invariant: what is left to walk gives what the whole gives, and each list that was passed has its most bytes or fewer.
use mathlib.Core.Path.{refl, ◌∙◌}
use native.Mathlib.Omega.{arith}
use Rattle.policy_writer.proofs.Elements.{nothing_put}
use Rattle.policy_writer.proofs.Rows.{going_start, going_stop, going_on, going_end, going_put}
use Rattle.policy_writer.proofs.Fronts.{list_sound}
use Rattle.policy_writer.proofs.Lists.{list_most}
use Rattle.policy_writer.proofs.parts.lists.Goals as goal

pub loop-init : goal.loop-init
loop-init c = let p = c.requires in (going_start _ _ _ _ _ _ p.0.numbers p.0.bodies, (omega (arith, p.0.bytes), p.1))

pub list-requires : goal.list-requires
list-requires c = let i = c.loop.invariant in record { numbers = i.0.numbers; bodies = i.0.bodies; bytes = omega (arith, i.1, i.0.passed) }

pub returns-in_err-c : goal.returns-in_err-c
returns-in_err-c c =
    let l = c.loop in
    record { next = c.from_residual.ensures ∙ going_stop _ _ _ _ _ _ _ _ _ l.invariant.0 c.loop-test.true _ c.list.ensures.next c.in_err-c.was; put = nothing_put _ _ _ _ _ _ _ c.from_residual.ensures }

pub loop-preserved : goal.loop-preserved
loop-preserved c =
    let l = c.loop in
    let q = c.in_ok-c.was in
    let g = going_on _ _ _ _ _ _ _ _ _ l.invariant.0 c.loop-test.true _ c.list.ensures.next _ q _ c.list.ensures.put c.out-1.given list_sound (λ i. (c.type_inv.bodies i).fits) in
    (g, (omega (arith, l.invariant.1, list_most _ _ l.c _ _ c.list.ensures.next q), l.invariant.1.1))

pub returns : goal.returns
returns c =
    record { next = going_end _ _ _ _ _ _ _ _ _ c.loop.invariant.0 c.loop-test.false; put = going_put _ _ _ _ _ _ _ _ _ c.loop.invariant.0 c.loop-test.false _ refl }
