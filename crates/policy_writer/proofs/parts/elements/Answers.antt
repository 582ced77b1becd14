-- `elements` meets its contract. The invariant: what is left to walk gives what the whole gives, and no more bytes are passed than a list may have.
use mathlib.Core.Path.{refl, ◌∙◌}
use native.Mathlib.Omega.{arith}
use Rattle.policy_writer.proofs.Elements.{nothing_put}
use Rattle.policy_writer.proofs.Rows.{going_start, going_stop, going_on, going_end, going_put, limit_stop, limit_end, limit_over}
use Rattle.policy_writer.proofs.Fronts.{element_sound}
use Rattle.policy_writer.proofs.parts.elements.Goals as goal

pub loop-init : goal.loop-init
loop-init c = (going_start _ _ _ _ _ _ c.requires.numbers c.requires.bodies, (refl, (omega arith, c.requires.bytes)))

pub element-requires : goal.element-requires
element-requires c = let i = c.loop.invariant in record { numbers = i.0.numbers; bodies = i.0.bodies; bytes = omega (arith, i.1, i.0.onward) }

pub returns-in_err-next : goal.returns-in_err-next
returns-in_err-next c =
    let l = c.loop in
    record { next = c.from_residual.ensures ∙ limit_stop c.args.start _ (going_stop _ _ _ _ _ _ _ _ _ l.invariant.0 c.loop-test.true _ c.element.ensures.next c.in_err-next.was); put = nothing_put _ _ _ _ _ _ _ c.from_residual.ensures }

pub overflow_sub-next : goal.overflow_sub-next
overflow_sub-next c =
    let l = c.loop in
    let g = going_on _ _ _ _ _ _ _ _ _ l.invariant.0 c.loop-test.true _ c.element.ensures.next _ c.in_ok-next.was _ c.element.ensures.put c.out-1.given element_sound (λ i. (c.type_inv.bodies i).fits) in
    omega (arith, g.onward, l.invariant.1)

pub returns-then-next-first-gt-LARGEST_SIZE : goal.returns-then-next-first-gt-LARGEST_SIZE
returns-then-next-first-gt-LARGEST_SIZE c =
    let l = c.loop in
    let g = going_on _ _ _ _ _ _ _ _ _ l.invariant.0 c.loop-test.true _ c.element.ensures.next _ c.in_ok-next.was _ c.element.ensures.put c.out-1.given element_sound (λ i. (c.type_inv.bodies i).fits) in
    record { next = limit_over _ _ _ _ _ _ _ _ _ g (omega (arith, c.if-next-first-gt-LARGEST_SIZE.true, l.invariant.1)); put = nothing_put _ _ _ _ _ _ _ refl }

pub loop-preserved : goal.loop-preserved
loop-preserved c =
    let l = c.loop in
    let g = going_on _ _ _ _ _ _ _ _ _ l.invariant.0 c.loop-test.true _ c.element.ensures.next _ c.in_ok-next.was _ c.element.ensures.put c.out-1.given element_sound (λ i. (c.type_inv.bodies i).fits) in
    (g, (l.invariant.1.0, (c.if-next-first-gt-LARGEST_SIZE.false, l.invariant.1.1.1)))

pub returns : goal.returns
returns c =
    let e = going_end _ _ _ _ _ _ _ _ _ c.loop.invariant.0 c.loop-test.false in
    record { next = limit_end c.args.start _ _ e (omega (arith, c.loop.invariant.1)); put = going_put _ _ _ _ _ _ _ _ _ c.loop.invariant.0 c.loop-test.false _ refl }
