-- The law says what stands at the front of the zeros when the three parts are written.
use Rattle.std.proofs.Common.{◌∙◌}
use Rattle.sha256.proofs.BigEndian.{eight_bytes}
use Rattle.sha256.proofs.Padding.{front}
use Rattle.sha256.proofs.padded.Goals as goal

pub returns : goal.returns
returns c =
    let a = c.args in
    front a.rest.now a.total c.requires.waits a.p.now _ _ _ c.requires.zeros c.copy_from_slice.ensures.after (c.copy_from_slice-2.ensures.after ∙ c.to_be_bytes.ensures ∙ eight_bytes _)
