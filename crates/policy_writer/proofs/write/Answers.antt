-- `write` meets its contract: one law for each answer.
use mathlib.Core.Path.{ap}
use native.Mathlib.Omega.{arith}
use lib.ListN.{length}
use Rattle.policy_writer.proofs.Answered.{nothing_described, too_long, no_room, file_there, all_written}
use Rattle.policy_writer.proofs.write.Goals as goal

pub returns-in_default : goal.returns-in_default
returns-in_default c =
    let x = nothing_described _ _ _ _ _ c.described_end.ensures.next c.in_default.is _ c.described_end.ensures.kept in
    record { answer = x.0; buffer = x.1 }

pub returns-then-size-gt-LARGEST_FILE : goal.returns-then-size-gt-LARGEST_FILE
returns-then-size-gt-LARGEST_FILE c =
    let x = too_long _ _ _ _ _ c.described_end.ensures.next _ c.in-Some.is c.if-size-gt-LARGEST_FILE.true _ c.described_end.ensures.kept in
    record { answer = x.0; buffer = x.1 }

pub returns-then-out-size : goal.returns-then-out-size
returns-then-out-size c =
    let x = no_room _ _ _ _ _ c.described_end.ensures.next _ c.in-Some.is (omega arith) (omega (arith, c.if-out-size.true, ap length c.described_end.ensures.kept)) _ c.described_end.ensures.kept in
    record { answer = x.0; buffer = x.1 }

pub hash_of-hash-requires : goal.hash_of-hash-requires
hash_of-hash-requires c =
    file_there _ _ c.args.fields _ _ c.described_end.ensures.next _ c.in-Some.is c.if-size-gt-LARGEST_FILE.false (omega (arith, c.if-out-size.false, ap length c.described_end.ensures.kept))
    (λ i. (c.type_inv.numbers i).fits) (λ i. (c.type_inv.bodies i).fits) _ c.file.ensures.next _ _ c.described_end.ensures.kept c.file.ensures.put

pub returns : goal.returns
returns c =
    let x = all_written _ _ _ _ _ c.described_end.ensures.next _ c.in-Some.is c.if-size-gt-LARGEST_FILE.false (omega (arith, c.if-out-size.false, ap length c.described_end.ensures.kept))
    (λ i. (c.type_inv.numbers i).fits) (λ i. (c.type_inv.bodies i).fits) _ c.file.ensures.next _ _ c.described_end.ensures.kept c.file.ensures.put _ _ c.hash_of-hash.ensures c.policy_record.ensures in
    record { answer = x.0; buffer = x.1 }
