-- `first_list` meets its contract: one law for each answer.
use Rattle.policy_reader.proofs.ReadExtents.{was_ok}
use Rattle.policy_reader.proofs.ListNumbers.{answers_unsigned, answers_signed, elements_offset_fits, signing_offset_fits, key_offset_fits, signature_offset_fits}
use borrow.Author.Rules.{rules}
use Rattle.policy_reader.proofs.at_offset.first_list.Goals as goal

pub overflow_add-list : goal.overflow_add-list
overflow_add-list c = record { fits = search (rules, was_ok _ c.ok.ensures.value c.in_ok-size.was, elements_offset_fits) }

pub returns-then-number-ne-SIGNED : goal.returns-then-number-ne-SIGNED
returns-then-number-ne-SIGNED c = search (rules, was_ok _ c.ok.ensures.value c.in_ok-size.was, answers_unsigned)

pub overflow_add-key : goal.overflow_add-key
overflow_add-key c = record { fits = search (rules, was_ok _ c.ok.ensures.value c.in_ok-size.was, signing_offset_fits) }

pub overflow_add-key-2 : goal.overflow_add-key-2
overflow_add-key-2 c = record { fits = search (rules, was_ok _ c.ok.ensures.value c.in_ok-size.was, key_offset_fits) }

pub overflow_add-signing : goal.overflow_add-signing
overflow_add-signing c = record { fits = search (rules, was_ok _ c.ok.ensures.value c.in_ok-size.was, signature_offset_fits) }

pub returns : goal.returns
returns c = search (rules, was_ok _ c.ok.ensures.value c.in_ok-size.was, answers_signed)
