-- `digest_length` meets its contract: each arm has the number that the grammar gives to its algorithms.
use mathlib.Core.Path.{sym, ap}
use mathlib.Core.Logic.{⊎_elim}
use lib.Dec.{lit≤}
use borrow.Author.Rules.{rules}
use Rattle.policy_grammar.specs.Grammar.{digest_length}
use Rattle.policy_answers.proofs.sizes.digest_length.Goals as goal

pub returns-in-4 : goal.returns-in-4
unfolding digest_length
returns-in-4 c = (sym (ap digest_length c.in-4.is), lit≤ tt)

pub returns-in-11 : goal.returns-in-11
unfolding digest_length
returns-in-11 c = (⊎_elim (λ e. sym (ap digest_length e)) (λ e. sym (ap digest_length e)) c.in-11.is, lit≤ tt)

pub returns-in-12 : goal.returns-in-12
unfolding digest_length
returns-in-12 c = (sym (ap digest_length c.in-12.is), lit≤ tt)

pub returns-in-13 : goal.returns-in-13
unfolding digest_length
returns-in-13 c = (sym (ap digest_length c.in-13.is), lit≤ tt)

pub returns-in_default : goal.returns-in_default
unfolding digest_length
returns-in_default c = search rules
