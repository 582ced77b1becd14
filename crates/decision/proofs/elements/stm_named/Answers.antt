-- `stm_named` meets its contract. The invariant: whatever elements stand from `start` on, those that are left stand from the offset on, and one of
-- all names the digest exactly where one of them does.
use mathlib.Core.Path.{refl}
use native.Mathlib.Omega.{arith}
use Rattle.policy_reader.proofs.Standing as kinds
use Rattle.policy_reader.proofs.Walk.{front, onward, ended}
use Rattle.decision.proofs.Judging.{naming_end, this_names, this_does_not_name}
use Rattle.decision.proofs.elements.stm_named.Goals as goal

pub returns-in_default : goal.returns-in_default
returns-in_default c = λ es stand.
    let t = front kinds.element _ _ _ (c.loop-at.invariant es stand) _ c.loop-at-test.true c.in_default.ensures.0 in
    absurd (omega (arith, t.positive))

pub returns-then-names_stm : goal.returns-then-names_stm
returns-then-names_stm c = λ es stand.
    let t = front kinds.element _ _ _ (c.loop-at.invariant es stand) _ c.loop-at-test.true c.in-Some.ensures.0 in
    this_names _ _ _ _ _ t _ c.names_stm.ensures c.if-names_stm.true

pub loop-at-smaller : goal.loop-at-smaller
loop-at-smaller c =
    let p = c.requires in
    let t = front kinds.element _ _ _ (c.loop-at.invariant p.0 p.1) _ c.loop-at-test.true c.in-Some.ensures.0 in
    omega (arith, t.within, t.positive)

pub loop-at-preserved : goal.loop-at-preserved
loop-at-preserved c = λ es stand.
    let t = front kinds.element _ _ _ (c.loop-at.invariant es stand) _ c.loop-at-test.true c.in-Some.ensures.0 in
    onward kinds.element _ _ _ _ _ t _ refl (this_does_not_name _ _ _ _ _ t _ c.names_stm.ensures c.if-names_stm.false)

pub returns : goal.returns
returns c = λ es stand. naming_end _ _ (ended kinds.element _ _ _ (c.loop-at.invariant es stand) c.loop-at-test.false)
