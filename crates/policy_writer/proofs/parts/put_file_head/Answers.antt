-- `put_file_head` meets its contract: each field behind the one before.
use Rattle.policy_writer.proofs.Buffer.{put_same}
use Rattle.policy_writer.proofs.Heads.{file_head_put}
use Rattle.policy_grammar.specs.Grammar.{mark_characters}
use borrow.Author.Rules.{rules}
use Rattle.policy_writer.proofs.parts.put_file_head.Goals as goal

pub shape_of-out : goal.shape_of-out
shape_of-out c = search (rules, put_same)

pub returns : goal.returns
unfolding mark_characters
returns c = search (rules, file_head_put)
