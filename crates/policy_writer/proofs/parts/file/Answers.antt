-- `file` meets its contract: one law for each answer.
use mathlib.Core.Path.{refl, ◌∙◌}
use Rattle.policy_writer.proofs.Elements.{nothing_put}
use Rattle.policy_writer.proofs.Files.{no_numbers, no_list_lem, many_lists, no_lists, numbers_left, bodies_left, file_next, file_put}
use borrow.Author.Rules.{rules}
use Rattle.policy_writer.proofs.parts.file.Goals as goal

pub returns-then-numbers-lt1 : goal.returns-then-numbers-lt1
returns-then-numbers-lt1 c = record { next = search (rules, no_numbers); put = nothing_put _ _ _ _ _ _ _ refl }

pub returns-then-count-lt1 : goal.returns-then-count-lt1
returns-then-count-lt1 c = record { next = no_list_lem _ _ c.if-numbers-lt1.false _ c.wide-count.ensures.0 c.if-count-lt1.true; put = nothing_put _ _ _ _ _ _ _ refl }

pub returns-then-count-gt-MOST_LISTS : goal.returns-then-count-gt-MOST_LISTS
returns-then-count-gt-MOST_LISTS c = record { next = many_lists _ _ c.if-numbers-lt1.false _ c.wide-count.ensures.0 c.if-count-gt-MOST_LISTS.true; put = nothing_put _ _ _ _ _ _ _ refl }

pub returns-in_err-next : goal.returns-in_err-next
returns-in_err-next c =
    record { next = c.from_residual.ensures ∙ no_lists _ _ c.if-numbers-lt1.false _ c.wide-count.ensures.0 c.if-count-lt1.false c.if-count-gt-MOST_LISTS.false _ c.lists.ensures.next c.in_err-next.was; put = nothing_put _ _ _ _ _ _ _ c.from_residual.ensures }

pub returns-then-next-numbers : goal.returns-then-next-numbers
returns-then-next-numbers c =
    record { next = numbers_left _ _ c.if-numbers-lt1.false _ c.wide-count.ensures.0 c.if-count-lt1.false c.if-count-gt-MOST_LISTS.false _ c.lists.ensures.next _ c.in_ok-next.was c.if-next-numbers.true; put = nothing_put _ _ _ _ _ _ _ refl }

pub returns-then-next-bodies : goal.returns-then-next-bodies
returns-then-next-bodies c =
    record { next = bodies_left _ _ c.if-numbers-lt1.false _ c.wide-count.ensures.0 c.if-count-lt1.false c.if-count-gt-MOST_LISTS.false _ c.lists.ensures.next _ c.in_ok-next.was c.if-next-bodies.true; put = nothing_put _ _ _ _ _ _ _ refl }

pub returns : goal.returns
returns c =
    record {
      next = file_next _ _ c.if-numbers-lt1.false _ c.wide-count.ensures.0 c.if-count-lt1.false c.if-count-gt-MOST_LISTS.false _ c.lists.ensures.next _ c.in_ok-next.was c.if-next-numbers.false c.if-next-bodies.false;
      put = file_put _ _ c.if-numbers-lt1.false _ c.wide-count.ensures.0 c.if-count-lt1.false c.if-count-gt-MOST_LISTS.false _ c.lists.ensures.next _ c.in_ok-next.was c.if-next-numbers.false c.if-next-bodies.false _ _ _ c.put_file_head.ensures c.lists.ensures.put _;
    }
