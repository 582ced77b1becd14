-- `shift` meets its contract: the words stand for those one place further up.
use Rattle.rsa.proofs.Values.{shifted}
use Rattle.rsa.proofs.words.shift.Goals as goal

pub returns : goal.returns
returns c = shifted c.args.t.now _ c.args.top c.requires c.copy_within.ensures.len c.copy_within.ensures.after
