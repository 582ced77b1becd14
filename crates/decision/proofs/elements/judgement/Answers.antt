-- `judgement` meets its contract: one law for each answer.
use Rattle.decision.proofs.Judging.{by_no, by_stm, by_yes}
use borrow.Author.Rules.{rules}
use Rattle.decision.proofs.elements.judgement.Goals as goal

pub returns-then-not-named : goal.returns-then-not-named
returns-then-not-named c = search (rules, by_no)

pub returns-then-holds_stm : goal.returns-then-holds_stm
returns-then-holds_stm c = search (rules, by_stm)

pub returns : goal.returns
returns c = search (rules, by_yes)
