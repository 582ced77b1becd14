-- Each word gives its four bytes.
use Rattle.std.proofs.Common.{◌*◌, sym, refl, ap, ◌∙◌, arith, rules}
use Rattle.std.proofs.lemmas.List.{take_all}
use Rattle.sha256.specs.Message.{digest_of}
use Rattle.sha256.proofs.BigEndian.{four_bytes, digest_more}
use borrow.Rule.Slice.PartMut.{same_len_mid}
use Rattle.sha256.proofs.digest_bytes.Goals as goal

pub loop-i-init : goal.loop-i-init
unfolding digest_of
loop-i-init c = record { long = refl; front = refl }

pub loop-i-preserved : goal.loop-i-preserved
loop-i-preserved c = record {
  long = same_len_mid _ _ _ _ c.copy_from_slice.ensures.len ∙ c.loop-i.invariant.long;
  front = digest_more c.args.h c.loop-i.d _ c.loop-i.i _ (search rules) (omega arith) c.loop-i.invariant.front (c.copy_from_slice.ensures.after ∙ c.to_be_bytes.ensures ∙ four_bytes _);
}

pub returns : goal.returns
returns c =
    let h = c.args.h in
    let i = c.loop-i.i in
    sym (take_all (4 * i) c.loop-i.d (omega arith)) ∙ c.loop-i.invariant.front ∙ ap digest_of (take_all i h (search rules))
