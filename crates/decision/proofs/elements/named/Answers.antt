-- `named` meets its contract. The invariant: the digest is one of all exactly where it is one of those that are left.
use Rattle.decision.proofs.Digests.{first_is, first_is_not, none_left}
use borrow.Author.Rules.{rules}
use Rattle.decision.proofs.elements.named.Goals as goal

pub returns-then-marked : goal.returns-then-marked
returns-then-marked c = search (rules, first_is)

pub loop-k-preserved : goal.loop-k-preserved
loop-k-preserved c = search (rules, first_is_not)

pub returns : goal.returns
returns c = search (rules, none_left)
