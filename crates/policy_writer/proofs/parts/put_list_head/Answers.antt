-- `put_list_head` meets its contract: each field behind the one before.
use Rattle.policy_writer.proofs.Buffer.{put_same}
use Rattle.policy_writer.proofs.Heads.{list_head_put}
use borrow.Author.Rules.{rules}
use Rattle.policy_writer.proofs.parts.put_list_head.Goals as goal

pub shape_of-out : goal.shape_of-out
shape_of-out c = search (rules, put_same)

pub returns : goal.returns
returns c = search (rules, list_head_put)
