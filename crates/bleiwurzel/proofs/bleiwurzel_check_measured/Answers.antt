-- `bleiwurzel_check_measured` meets its contract: the answer of the check, number by number, and the measurement.
use Rattle.bleiwurzel.proofs.Answers.{as_given}
use Rattle.bleiwurzel.proofs.bleiwurzel_check_measured.Goals as goal

pub returns : goal.returns
returns c =
    let g = c.give.ensures in
    (as_given _ _ _ _ c.check_measured-a.ensures.answer c.check_measured-a.ensures.places g.number g.counts g.place g.digest, c.check_measured-a.ensures.measurement)
