-- `signature` meets its contract: it is the signature of the list that `list` gives.
use mathlib.Core.Path.{ap, ◌∙◌}
use Rattle.policy_answers.specs.Answers.{signature_of}
use Rattle.policy.proofs.numbered.signature.Goals as goal

pub returns : goal.returns
returns c = c.signature_of.ensures ∙ ap signature_of c.list.ensures
