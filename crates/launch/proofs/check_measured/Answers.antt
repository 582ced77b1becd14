-- `check_measured` meets its contract: the outcome of all stages, shown; on a permission its pages are written, and a refusal has none.
use mathlib.Core.Path.{refl, sym, ◌∙◌}
use Rattle.mle.proofs.Pages.{page_list_none}
use Rattle.launch.specs.Inner.{no_image}
use Rattle.launch.proofs.Whole.{answer_is, places_are, measurement_is}
use Rattle.launch.proofs.check_measured.Goals as goal

pub returns-in-Ok-clause-answer : goal.returns-in-Ok-clause-answer
returns-in-Ok-clause-answer c = c.permitted.ensures ∙ answer_is _ _ c.in-Ok.ensures

pub returns-in-Ok-clause-places : goal.returns-in-Ok-clause-places
returns-in-Ok-clause-places c = c.write_pages.ensures ∙ places_are _ _ _ c.in-Ok.ensures

pub returns-in-Ok-clause-measurement : goal.returns-in-Ok-clause-measurement
returns-in-Ok-clause-measurement c = measurement_is _ _ c.in-Ok.ensures

pub returns-in-Err-clause-answer : goal.returns-in-Err-clause-answer
returns-in-Err-clause-answer c = c.from.ensures ∙ answer_is _ _ c.in-Err.ensures

pub returns-in-Err-clause-places : goal.returns-in-Err-clause-places
returns-in-Err-clause-places c = sym (page_list_none _ no_image _ refl) ∙ places_are _ _ _ c.in-Err.ensures

pub returns-in-Err-clause-measurement : goal.returns-in-Err-clause-measurement
returns-in-Err-clause-measurement c = measurement_is _ _ c.in-Err.ensures
