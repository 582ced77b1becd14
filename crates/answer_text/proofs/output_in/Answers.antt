-- `output_in` meets its contract: the first line and those of the pages, where the buffer has room for both.
use Rattle.std.proofs.Common.{◌∙◌, arith}
use Rattle.answer_text.proofs.Written.{no_room, put_both}
use Rattle.answer_text.proofs.output_in.Goals as goal

pub returns-then-out-text : goal.returns-then-out-text
returns-then-out-text c =
    let said = no_room _ _ c.args.out.now _ c.shown-shown.ensures _ (c.as_bytes-text.ensures ∙ c.first_line-line.ensures) (omega arith) in
    record { length = said.0; text = said.1.0; front = said.1.1 }

pub returns-then-out-text-2 : goal.returns-then-out-text-2
returns-then-out-text-2 c =
    let said = no_room _ _ c.args.out.now _ c.shown-shown.ensures _ (c.as_bytes-text.ensures ∙ c.first_line-line.ensures) (omega arith) in
    record { length = said.0; text = said.1.0; front = said.1.1 }

pub returns : goal.returns
returns c =
    let said = put_both _ _ c.args.out.now _ c.shown-shown.ensures _ (c.as_bytes-text.ensures ∙ c.first_line-line.ensures) (omega arith) _ _
    c.copy_from_slice.ensures.after c.put_pages.ensures in
    record { length = said.0; text = said.1.0; front = said.1.1 }
