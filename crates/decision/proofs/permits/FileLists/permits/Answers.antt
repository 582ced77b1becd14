-- `permits` meets its contract: by the counter, then the elements, which stand in the file up to their end, and the signature.
use mathlib.Core.Path.{sym}
use native.Mathlib.Omega.{arith}
use lib.Seq.{length-take-le}
use Rattle.decision.proofs.ListAnswers.{listed, counter_too_low, counter_reached}
use Rattle.decision.proofs.permits.FileLists.permits.Goals as goal

pub returns-then-not-counter_reached-clause-permits : goal.returns-then-not-counter_reached-clause-permits
returns-then-not-counter_reached-clause-permits c = λ x stands.
    counter_too_low _ _ x stands _ _ _ c.counter_reached.ensures c.if-not-counter_reached.true

pub overflow_add-end : goal.overflow_add-end
overflow_add-end c =
    let p = c.requires in
    let u = listed _ _ p.0 p.1 in
    omega (arith, u.within)

pub slice_bounds-elements_and_signature-end : goal.slice_bounds-elements_and_signature-end
slice_bounds-elements_and_signature-end c =
    let p = c.requires in
    let u = listed _ _ p.0 p.1 in
    sym (length-take-le _ _ u.within)

pub elements_and_signature-requires : goal.elements_and_signature-requires
elements_and_signature-requires c =
    let p = c.requires in
    let u = listed _ _ p.0 p.1 in
    (p.0.elements, u.elements)

pub returns-clause-permits : goal.returns-clause-permits
returns-clause-permits c = λ x stands.
    let u = listed _ _ x stands in
    counter_reached _ _ x stands _ _ _ c.counter_reached.ensures c.if-not-counter_reached.false _
    (c.elements_and_signature.ensures.permits x.elements u.elements)
