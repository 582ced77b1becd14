-- `lowest_in` meets its contract. The invariant: the lists that are left stand from the offset on, i lists were passed, none of which permits, and file and
-- criteria are those that were handed over.
use mathlib.Core.Path.{refl, ap, ◌∙◌}
use native.Mathlib.Omega.{arith}
use Rattle.policy_reader.proofs.Standing as kinds
use Rattle.policy_reader.proofs.Walk.{front, onward, ended}
use Rattle.decision.specs.Lists.{lists_of, lowest_permitting, some_permits}
use Rattle.decision.proofs.Walking.{starts, short}
use Rattle.decision.proofs.Lowest.{list_stands, lowest_start, lowest_end, this_permits, this_does_not, none_is, one_is}
use Rattle.decision.proofs.Permission.{reported_exactly}
use Rattle.decision.proofs.permits.lowest_in.Goals as goal

pub loop-at-init : goal.loop-at-init
loop-at-init c =
    let w = starts _ c.type_inv.file c.requires in
    (omega arith, refl, refl, record { rest = lists_of _; valid = w.valid; stand = w.stand; kept = lowest_start _ _ })

pub returns-in_err-l : goal.returns-in_err-l
returns-in_err-l c =
    let t = front kinds.list _ _ _ c.loop-at.invariant.3 _ c.loop-at-test.true c.in_err-l.ensures.0 in
    absurd (omega (arith, t.positive))

pub permits-requires : goal.permits-requires
permits-requires c =
    let t = front kinds.list _ _ _ c.loop-at.invariant.3 _ c.loop-at-test.true c.in_ok-l.ensures.0 in
    rw c.loop-at.invariant.1 (t.first, list_stands _ _ _ _ t)

pub returns-then-permits : goal.returns-then-permits
unfolding lowest_permitting some_permits
returns-then-permits c =
    let i = c.loop-at.invariant in
    let t = front kinds.list _ _ _ i.3 _ c.loop-at-test.true c.in_ok-l.ensures.0 in
    let h = this_permits _ _ _ _ _ _ t _ (rw (i.1, i.2) at c.permits.ensures.permits) c.if-permits.true in
    one_is _ _ h.0 ((reported_exactly _ _ (λ k. (c.type_inv.file k).fits)).0 h.1)

pub overflow_add-i : goal.overflow_add-i
overflow_add-i c = omega (arith, short _ c.requires)

pub loop-at-preserved : goal.loop-at-preserved
loop-at-preserved c =
    let i = c.loop-at.invariant in
    let t = front kinds.list _ _ _ i.3 _ c.loop-at-test.true c.in_ok-l.ensures.0 in (
      omega (arith, t.positive, i.0),
      ap (λ f. f.now) c.permits.ensures.file ∙ i.1,
      c.permits.ensures.criteria ∙ i.2,
      onward kinds.list _ _ _ _ _ t _ refl (this_does_not _ _ _ _ _ _ t _ (rw (i.1, i.2) at c.permits.ensures.permits) c.if-permits.false),
    )

pub returns : goal.returns
unfolding lowest_permitting
returns c = none_is _ (lowest_end _ _ _ (ended kinds.list _ _ _ c.loop-at.invariant.3 c.loop-at-test.false))
