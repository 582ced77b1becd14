-- `hash` meets its contract. The invariant: the state holds the measures of the lists that were passed, and the others stand from the offset on.
use mathlib.Core.Path.{◌∙◌}
use native.Mathlib.Omega.{arith}
use Rattle.policy_reader.proofs.Standing as kinds
use Rattle.policy_reader.proofs.Walk.{front, onward, ended}
use Rattle.decision.specs.Lists.{lists_of}
use Rattle.decision.proofs.Walking.{starts}
use Rattle.decision.proofs.Hashing.{measure_is, hashing_start, hashing_step, hashing_end}
use Rattle.decision.proofs.measures.hash.Goals as goal

pub loop-at-init : goal.loop-at-init
loop-at-init c =
    let w = starts _ c.type_inv.file c.requires in
    record { rest = lists_of _; valid = w.valid; stand = w.stand; kept = hashing_start _ _ c.start-state.ensures }

pub loop-at-smaller : goal.loop-at-smaller
loop-at-smaller c =
    let l = c.loop-at in
    let t = front kinds.list _ _ _ l.invariant _ c.loop-at-test.true c.list_at-l.ensures.0 in
    omega (arith, t.within, t.positive, c.list_size-at.ensures)

pub loop-at-preserved : goal.loop-at-preserved
loop-at-preserved c =
    let l = c.loop-at in
    let t = front kinds.list _ _ _ l.invariant _ c.loop-at-test.true c.list_at-l.ensures.0 in
    let m = measure_is _ _ _ _ t _ _ c.measured.ensures c.digest-measure.ensures in
    onward kinds.list _ _ _ _ _ t _ c.list_size-at.ensures (hashing_step _ _ _ t.first t.others _ t.kept m c.absorb-state.ensures)

pub returns : goal.returns
returns c =
    c.finish.ensures ∙ hashing_end _ _ (ended kinds.list _ _ _ c.loop-at.invariant c.loop-at-test.false)
