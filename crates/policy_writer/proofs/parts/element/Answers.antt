-- `element` meets its contract: one law for each answer.
use mathlib.Core.Path.{refl}
use Rattle.policy_writer.proofs.Buffer.{put_same}
use Rattle.policy_writer.proofs.Elements.{nothing_put, element_short, element_not, body_there, element_next, element_written}
use native.Mathlib.Omega.{arith}
use borrow.Author.Rules.{rules}
use Rattle.policy_writer.proofs.parts.element.Goals as goal

pub returns-then-numbers-at-lt3 : goal.returns-then-numbers-at-lt3
returns-then-numbers-at-lt3 c = record { next = search (rules, element_short); put = nothing_put _ _ _ _ _ _ _ refl }

pub returns-then-not-element_given : goal.returns-then-not-element_given
returns-then-not-element_given c =
    let a = c.args in
    record { next = element_not a.numbers.now a.bodies.now a.c c.if-numbers-at-lt3.false _ _ _ c.wide-kind.ensures.0 c.wide-control.ensures.0 c.wide-length.ensures.0 _ c.element_given.ensures c.if-not-element_given.true; put = nothing_put _ _ _ _ _ _ _ refl }

pub slice_bounds-put_element-end : goal.slice_bounds-put_element-end
slice_bounds-put_element-end c =
    let a = c.args in
    omega (arith, body_there a.numbers.now a.bodies.now a.c c.if-numbers-at-lt3.false _ _ _ c.wide-kind.ensures.0 c.wide-control.ensures.0 c.wide-length.ensures.0 _ c.element_given.ensures c.if-not-element_given.false c.type_inv.bodies)

pub shape_of-out : goal.shape_of-out
shape_of-out c = search (rules, put_same)

pub returns : goal.returns
returns c =
    let a = c.args in
    record {
      next = element_next a.numbers.now a.bodies.now a.c c.if-numbers-at-lt3.false _ _ _ c.wide-kind.ensures.0 c.wide-control.ensures.0 c.wide-length.ensures.0 _ c.element_given.ensures c.if-not-element_given.false c.type_inv.bodies;
      put = element_written a.numbers.now a.bodies.now a.c c.if-numbers-at-lt3.false _ _ _ c.wide-kind.ensures.0 c.wide-control.ensures.0 c.wide-length.ensures.0 _ c.element_given.ensures c.if-not-element_given.false c.type_inv.bodies _ _ c.put_element.ensures _;
    }
