-- `bleiwurzel_check_capture` meets its contract: the answer for the capture, number by number.
use Rattle.bleiwurzel.proofs.Answers.{as_given}
use Rattle.bleiwurzel.proofs.bleiwurzel_check_capture.Goals as goal

pub returns : goal.returns
returns c =
    let g = c.give.ensures in
    as_given _ _ _ _ c.check-r.ensures.answer c.check-r.ensures.places g.number g.counts g.place g.digest
