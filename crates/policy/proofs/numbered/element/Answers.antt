-- `element` meets its contract: the elements of a list that is there are within the string, and are walked to the number.
use native.Mathlib.Omega.{arith}
use mathlib.Core.Path.{sym, ◌∙◌}
use lib.Seq.{length-take-le}
use Rattle.policy.proofs.ByNumber.{holds, element_room, element_numbered}
use Rattle.policy.proofs.numbered.element.Goals as goal

pub overflow_add-end : goal.overflow_add-end
overflow_add-end c =
    let w = holds _ c.type_inv.s c.args.i _ c.list.ensures _ c.elements_of.ensures _ c.in_ok-elements.was in
    record { fits = omega (arith, w.fit) }

pub slice_bounds-numbered-end : goal.slice_bounds-numbered-end
slice_bounds-numbered-end c =
    let w = holds _ c.type_inv.s c.args.i _ c.list.ensures _ c.elements_of.ensures _ c.in_ok-elements.was in
    sym (length-take-le _ _ w.fit)

pub numbered-requires : goal.numbered-requires
numbered-requires c =
    let w = holds _ c.type_inv.s c.args.i _ c.list.ensures _ c.elements_of.ensures _ c.in_ok-elements.was in
    element_room _ _ _ w.fit

pub returns : goal.returns
returns c = c.numbered.ensures ∙ element_numbered _ c.type_inv.s _ _ c.list.ensures _ c.elements_of.ensures _ c.in_ok-elements.was _
