-- `counted` meets its contract: one law for each answer.
use Rattle.policy_grammar.specs.Grammar.{mark_characters}
use Rattle.policy_reader.proofs.ReadExtents.{handed_on, rest_fits}
use Rattle.policy_reader.proofs.FileTests.{read_mark, read_zeros, read_none, read_many, read_yes, read_faulty}
use Prim.Native.Nat.{◌<◌}
use native.Mathlib.Omega.{arith}
use borrow.Author.Rules.{rules}
use Rattle.policy_reader.proofs.file.counted.Goals as goal

pub returns-then-not-marked : goal.returns-then-not-marked
unfolding mark_characters
returns-then-not-marked c = search (rules, read_mark)

pub returns-then-not-marked-2 : goal.returns-then-not-marked-2
unfolding mark_characters
returns-then-not-marked-2 c = search (rules, read_zeros)

pub returns-then-lists-lt1 : goal.returns-then-lists-lt1
unfolding mark_characters
returns-then-lists-lt1 c = search (rules, read_none)

pub returns-then-lists-gt-MOST_LISTS : goal.returns-then-lists-gt-MOST_LISTS
unfolding mark_characters
returns-then-lists-gt-MOST_LISTS c =
    let h : 8 < c.number-lists.result = omega arith in
    search (rules, read_many)

pub further-requires : goal.further-requires
further-requires c = search (rules, rest_fits)

pub returns-in_err-further : goal.returns-in_err-further
unfolding mark_characters
returns-in_err-further c = handed_on c.from_residual.ensures.1 (search (rules, c.in_err-further.was, read_faulty))

pub returns : goal.returns
unfolding mark_characters
returns c = search (rules, c.in_ok-further.was, read_yes)
