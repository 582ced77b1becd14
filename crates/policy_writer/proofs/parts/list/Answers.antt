-- `list` meets its contract: one law for each answer.
use mathlib.Core.Path.{refl, ◌∙◌}
use native.Mathlib.Omega.{arith}
use Rattle.policy_writer.proofs.Elements.{nothing_put}
use Rattle.policy_writer.proofs.Lists.{list_short, list_unknown, list_next, list_onward, list_put}
use borrow.Author.Rules.{rules}
use Rattle.policy_writer.proofs.parts.list.Goals as goal

pub returns-then-numbers-at-lt2 : goal.returns-then-numbers-at-lt2
returns-then-numbers-at-lt2 c = record { next = search (rules, list_short); put = nothing_put _ _ _ _ _ _ _ refl }

pub returns-then-not-known_version : goal.returns-then-not-known_version
returns-then-not-known_version c =
    let a = c.args in
    record { next = list_unknown a.numbers.now a.bodies.now a.c c.if-numbers-at-lt2.false _ _ c.wide-version.ensures.0 c.wide-count.ensures.0 _ c.known_version.ensures c.if-not-known_version.true; put = nothing_put _ _ _ _ _ _ _ refl }

pub returns-in_err-next : goal.returns-in_err-next
returns-in_err-next c =
    let a = c.args in
    record { next = c.from_residual.ensures ∙ list_next a.numbers.now a.bodies.now a.c c.if-numbers-at-lt2.false _ _ c.wide-version.ensures.0 c.wide-count.ensures.0 _ c.known_version.ensures c.if-not-known_version.false _ c.elements.ensures.next _ c.in_err-next.was; put = nothing_put _ _ _ _ _ _ _ c.from_residual.ensures }

pub overflow_sub-next : goal.overflow_sub-next
overflow_sub-next c =
    let a = c.args in
    omega (arith, list_onward a.numbers.now a.bodies.now a.c c.if-numbers-at-lt2.false _ _ c.wide-version.ensures.0 c.wide-count.ensures.0 _ c.known_version.ensures c.if-not-known_version.false _ c.elements.ensures.next _ c.in_ok-next.was)

pub returns : goal.returns
returns c =
    let a = c.args in
    let q = c.in_ok-next.was in
    record {
      next = list_next a.numbers.now a.bodies.now a.c c.if-numbers-at-lt2.false _ _ c.wide-version.ensures.0 c.wide-count.ensures.0 _ c.known_version.ensures c.if-not-known_version.false _ c.elements.ensures.next _ q;
      put = list_put a.numbers.now a.bodies.now a.c c.if-numbers-at-lt2.false _ _ c.wide-version.ensures.0 c.wide-count.ensures.0 _ c.known_version.ensures c.if-not-known_version.false _ c.elements.ensures.next _ q _ _ _ c.elements.ensures.put c.put_list_head.ensures _;
    }
