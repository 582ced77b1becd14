-- `words` meets its contract: the loop ends where the number begins, or at the end of the text.
use Rattle.std.proofs.Common.{sym, ◌∙◌, take_all}
use Rattle.capture_io.proofs.Numbered.{stopped, onward, ended, none_left, tested}
use Rattle.capture_io.proofs.words.Goals as goal

pub loop-end-preserved : goal.loop-end-preserved
loop-end-preserved c =
    onward c.args.text.now c.loop-end.end c.loop-end-test.true
    (tested c.args.text.now c.loop-end.end _ _ c.starts_with.ensures.value c.if-starts_with.false) c.loop-end.invariant

pub returns-then-starts_with : goal.returns-then-starts_with
returns-then-starts_with c =
    ended c.args.text.now c.loop-end.end (stopped _ (tested c.args.text.now c.loop-end.end _ _ c.starts_with.ensures.value c.if-starts_with.true)) c.loop-end.invariant

pub returns : goal.returns
returns c =
    let text = c.args.text.now in
    let i = c.loop-end.end in
    sym (take_all i text c.loop-end-test.false) ∙ ended text i (none_left text i c.loop-end-test.false) c.loop-end.invariant
