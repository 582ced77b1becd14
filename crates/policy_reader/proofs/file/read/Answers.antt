-- `read` meets its contract: the answer by the tests is that for the one reading.
use mathlib.Core.Path.{◌≡◌, ap, ◌∙◌}
use native.Mathlib.Omega.{arith}
use borrow.Author.Rules.{rules}
use Rattle.policy_reader.proofs.FileTests.{read_short, read_long, answer_for, read_counted}
use Rattle.policy_reader.proofs.Readings.{read_exactly}
use Rattle.policy_reader.proofs.file.read.Goals as goal

pub returns-then-s-lt-LEAST_FILE : goal.returns-then-s-lt-LEAST_FILE
returns-then-s-lt-LEAST_FILE c = read_exactly _ c.type_inv.s _ (read_short _ c.if-s-lt-LEAST_FILE.true)

pub returns-then-s-gt-LARGEST_FILE : goal.returns-then-s-gt-LARGEST_FILE
returns-then-s-gt-LARGEST_FILE c = read_exactly _ c.type_inv.s _ (read_long _ (omega arith))

pub returns : goal.returns
returns c =
    let e : c.map_err.result ≡ answer_for c.counted.result = search rules in
    read_exactly _ c.type_inv.s _ (e ∙ ap answer_for c.counted.ensures ∙ read_counted _ c.if-s-lt-LEAST_FILE.false (omega arith))
