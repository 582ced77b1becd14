-- `described_end` meets its contract: the part that is lent is empty, so the buffer stays.
use Rattle.policy_writer.proofs.Answered.{kept_empty}
use Rattle.policy_writer.proofs.described_end.Goals as goal

pub returns : goal.returns
returns c = record { next = c.file.ensures.next; kept = kept_empty c.file.new.out _ c.out-1.given.0 }
