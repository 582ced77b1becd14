use Rattle.std.proofs.Common.{◌≡◌, ◌++◌, length, drop}
use Rattle.answer_text.specs.Text.{hex, page_line}
use Rattle.answer_text.proofs.page_line.Given as goal

abbrev pub invariant-loop-at : goal.invariant-loop-at
invariant-loop-at l = record { long : length l.bytes ≡ 17; rest : hex l.at l.left ++ drop l.at l.bytes ≡ page_line l.a }
