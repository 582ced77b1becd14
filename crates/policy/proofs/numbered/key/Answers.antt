-- `key` meets its contract: it is the key of the list that `list` gives.
use mathlib.Core.Path.{ap, ◌∙◌}
use Rattle.policy_answers.specs.Answers.{key_of}
use Rattle.policy.proofs.numbered.key.Goals as goal

pub returns : goal.returns
returns c = c.key_of.ensures ∙ ap key_of c.list.ensures
