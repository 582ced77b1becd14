-- `list` meets its contract: a refused string has no lists, and the lists of an accepted one stand from offset 36 on.
use mathlib.Core.Path.{sym, ◌∙◌}
use Rattle.policy.proofs.ByNumber.{list_numbered}
use Rattle.policy.proofs.numbered.list.Goals as goal

pub returns : goal.returns
returns c = c.numbered.ensures ∙ list_numbered _ c.type_inv.s _ c.read.ensures.0 _ _ (sym c.ok.ensures.value ∙ c.in_ok-ok.was)
