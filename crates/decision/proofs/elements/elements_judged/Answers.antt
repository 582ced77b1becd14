-- `elements_judged` meets its contract. The invariant: whatever elements stand from `start` on, those that are left stand from the offset on, and
-- what they say with what was found is what all say.
use mathlib.Core.Path.{refl, ◌∙◌}
use native.Mathlib.Omega.{arith}
use Rattle.policy_reader.proofs.Standing as kinds
use Rattle.policy_reader.proofs.Walk.{front, onward, ended}
use Rattle.decision.proofs.Judging.{judging_end, unjudged, judging_step}
use Rattle.decision.proofs.elements.elements_judged.Goals as goal

pub returns-in_default : goal.returns-in_default
returns-in_default c = λ es stand.
    let t = front kinds.element _ _ _ (c.loop-at.invariant es stand) _ c.loop-at-test.true c.in_default.ensures.0 in
    absurd (omega (arith, t.positive))

pub returns-then-not-judged : goal.returns-then-not-judged
returns-then-not-judged c = λ es stand.
    let t = front kinds.element _ _ _ (c.loop-at.invariant es stand) _ c.loop-at-test.true c.in-Some.ensures.0 in
    unjudged _ _ _ _ _ _ _ t _ c.judged.ensures c.if-not-judged.true

pub loop-at-smaller : goal.loop-at-smaller
loop-at-smaller c =
    let p = c.requires in
    let t = front kinds.element _ _ _ (c.loop-at.invariant p.0 p.1) _ c.loop-at-test.true c.in-Some.ensures.0 in
    omega (arith, t.within, t.positive)

pub loop-at-preserved : goal.loop-at-preserved
loop-at-preserved c = λ es stand.
    let t = front kinds.element _ _ _ (c.loop-at.invariant es stand) _ c.loop-at-test.true c.in-Some.ensures.0 in
    onward kinds.element _ _ _ _ _ t _ refl
    (judging_step _ _ _ _ _ _ _ t _ c.judged.ensures c.if-not-judged.false _ c.names-named.ensures _ refl _ c.is_stm-holds_stm.ensures _ refl)

pub returns : goal.returns
returns c = λ es stand.
    c.judgement.ensures ∙ judging_end _ _ _ _ (ended kinds.element _ _ _ (c.loop-at.invariant es stand) c.loop-at-test.false)
