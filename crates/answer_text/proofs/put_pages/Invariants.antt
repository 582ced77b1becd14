use Rattle.std.proofs.Common.{◌≡◌, ◌*◌}
use lib.Seq.{paste}
use Rattle.answer_text.specs.Text.{page_lines}
use Rattle.answer_text.proofs.put_pages.Given as goal

abbrev pub invariant-loop-i : goal.invariant-loop-i
invariant-loop-i l = l.out ≡ paste l.initial.out l.at (page_lines l.pages) (17 * l.i)
