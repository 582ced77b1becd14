-- `first_extent` meets its contract: one law for each answer.
use Rattle.policy_reader.proofs.ListTests.{version_outside, version_unknown, algorithm_outside, algorithm_unknown, size_outside, size_over, elements_faulty, list_signed, list_unsigned, elements_fit}
use Rattle.policy_reader.proofs.ReadExtents.{handed_on, part_fits, read_fits}
use Prim.Native.Nat.{◌+◌}
use native.Mathlib.Omega.{arith}
use borrow.Author.Rules.{rules}
use Rattle.policy_reader.proofs.lists.first_extent.Goals as goal

pub returns-in_err-version : goal.returns-in_err-version
returns-in_err-version c = handed_on c.from_residual.ensures.1 (search (rules, c.in_err-version.was, version_outside))

pub returns-then-not-known_version : goal.returns-then-not-known_version
returns-then-not-known_version c = search (rules, c.in_ok-version.was, version_unknown)

pub returns-in_err-algorithm : goal.returns-in_err-algorithm
returns-in_err-algorithm c = handed_on c.from_residual-in_err-algorithm.ensures.1 (search (rules, c.in_ok-version.was, c.in_err-algorithm.was, algorithm_outside))

pub returns-then-not-known_algorithm : goal.returns-then-not-known_algorithm
returns-then-not-known_algorithm c = search (rules, c.in_ok-version.was, c.in_ok-algorithm.was, algorithm_unknown)

pub overflow_add-end : goal.overflow_add-end
overflow_add-end c = record { fits = search (rules, c.in_ok-end.was, elements_fit) }

pub returns-in_err-end : goal.returns-in_err-end
returns-in_err-end c = handed_on c.from_residual-in_err-end.ensures.1 (search (rules, c.in_ok-version.was, c.in_ok-algorithm.was, c.in_err-end.was, size_outside))

pub returns-then-t-end : goal.returns-then-t-end
returns-then-t-end c = search (rules, c.in_ok-version.was, c.in_ok-algorithm.was, c.in_ok-end.was, size_over)

pub further-requires : goal.further-requires
further-requires c = part_fits _ _ 8 8 _ (8 + c.in_ok-end.field-0) _ c.elements_extent.ensures (omega arith) (omega arith) c.if-t-end.false (search rules)

pub returns-in_err-further : goal.returns-in_err-further
returns-in_err-further c =
    handed_on c.from_residual-in_err-further.ensures.1
    (search (rules, c.in_ok-version.was, c.in_ok-algorithm.was, c.in_ok-end.was, c.in_err-further.was, elements_faulty))

pub further-requires-then-algorithm-eq-SIGNED : goal.further-requires-then-algorithm-eq-SIGNED
further-requires-then-algorithm-eq-SIGNED c = search (rules, read_fits)

pub returns-then-algorithm-eq-SIGNED : goal.returns-then-algorithm-eq-SIGNED
returns-then-algorithm-eq-SIGNED c = search (rules, c.in_ok-version.was, c.in_ok-algorithm.was, c.in_ok-end.was, c.in_ok-further.was, list_signed)

pub returns : goal.returns
returns c = search (rules, c.in_ok-version.was, c.in_ok-algorithm.was, c.in_ok-end.was, c.in_ok-further.was, list_unsigned)
