-- `list_extent` meets its contract: the list at the front of what is left there.
use Rattle.policy_reader.proofs.ReadExtents.{read_there}
use borrow.Author.Rules.{rules}
use Rattle.policy_reader.proofs.lists.list_extent.Goals as goal

pub returns : goal.returns
returns c = search (rules, read_there)
