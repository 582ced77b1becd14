-- Each word is the next of the schedule, and takes the place of the one that is used up.
use Rattle.std.proofs.Common.{sym}
use Rattle.sha256_block.proofs.Schedule.{none, renew}
use Rattle.sha256_block.proofs.block.next_words.Goals as goal

pub returns : goal.returns
returns c =
    let e1 = renew 0 _ (none _) c.extended.ensures in
    let e2 = renew 1 _ e1 c.extended-2.ensures in
    let e3 = renew 2 _ e2 c.extended-3.ensures in
    let e4 = renew 3 _ e3 c.extended-4.ensures in
    let e5 = renew 4 _ e4 c.extended-5.ensures in
    let e6 = renew 5 _ e5 c.extended-6.ensures in
    let e7 = renew 6 _ e6 c.extended-7.ensures in
    let e8 = renew 7 _ e7 c.extended-8.ensures in
    let e9 = renew 8 _ e8 c.extended-9.ensures in
    let e10 = renew 9 _ e9 c.extended-10.ensures in
    let e11 = renew 10 _ e10 c.extended-11.ensures in
    let e12 = renew 11 _ e11 c.extended-12.ensures in
    let e13 = renew 12 _ e12 c.extended-13.ensures in
    let e14 = renew 13 _ e13 c.extended-14.ensures in
    let e15 = renew 14 _ e14 c.extended-15.ensures in
    sym (renew 15 _ e15 c.extended-16.ensures)
