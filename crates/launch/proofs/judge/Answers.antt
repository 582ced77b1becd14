-- `judge` meets its contract: what the launch finds, and what the policy decides.
use mathlib.Core.Path.{ap, sym, ◌∙◌}
use Rattle.std.proofs.lemmas.Result.{err_from_is_err_and}
use Rattle.rules.specs.Refusal.{numbered}
use Rattle.launch.proofs.Whole.{find_stops, find_passes}
use Rattle.launch.proofs.Deciding.{returned_early}
use Rattle.launch.proofs.judge.Goals as goal

pub returns-in_err-found : goal.returns-in_err-found
returns-in_err-found c =
    returned_early (err_from_is_err_and c.from_residual.result c.from_residual.ensures.1)
    ∙ find_stops _ _ (sym c.find.ensures ∙ ap numbered c.in_err-found.was)

pub returns : goal.returns
returns c = c.decide.ensures ∙ find_passes _ _ (sym c.find.ensures ∙ ap numbered c.in_ok-found.was)
