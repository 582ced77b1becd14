-- `put_pages` meets its contract. The loop's invariant: the buffer has the lines of the first i pages in their place.
use Rattle.std.proofs.Common.{◌≡◌, ℕ, List, ◌+◌, ◌*◌, ◌<◌, ◌≤◌, length, get_or, take, drop, sym, refl, ap, ◌∙◌, arith, take_all}
use Rattle.std.proofs.lemmas.Slice.{put_mid-paste}
use lib.Seq.{paste, paste-zero}
use borrow.Rule.Slice.PartMut.{put_mid}
use Rattle.answer_text.specs.Text.{page_line, page_lines}
use Rattle.answer_text.proofs.Written.{lines_length, line_length, line_at, paste_more}
use Rattle.answer_text.proofs.put_pages.Goals as goal

-- one line more
more : (d out pages line : List ℕ) (at i k : ℕ) → i < length pages → at + 17 * length pages ≤ length d
    → out ≡ paste d at (page_lines pages) (17 * i) → line ≡ page_line (get_or pages i 0) → k ≡ 17
    → put_mid (at + 17 * i) k out line ≡ paste d at (page_lines pages) (17 * (i + 1))
more d out pages line at i k h room o l ek =
    let lines = page_lines pages in
    let count : length lines ≡ 17 * length pages = lines_length pages in
    let size : length line ≡ 17 = ap length l ∙ line_length (get_or pages i 0) in
    let this : take 17 line ≡ take 17 (drop (17 * i) lines) = take_all 17 line (omega arith) ∙ l ∙ sym (line_at pages i h) in
    let z : 17 * i + 17 ≡ 17 * (i + 1) = omega arith in
    let is : put_mid (at + 17 * i) k out line ≡ paste d at lines (17 * i + 17) =
    put_mid-paste (at + 17 * i) k out line line 17 refl (sym ek) (sym size) ∙ rw o (paste_more d at lines (17 * i) 17 line (at + 17 * i) refl (omega arith) (omega arith) this) in
    rw z at is

pub loop-i-init : goal.loop-i-init
loop-i-init c = paste-zero c.args.out.now c.args.at (page_lines c.args.pages.now)

pub loop-i-preserved : goal.loop-i-preserved
loop-i-preserved c =
    more c.args.out.now c.loop-i.out c.args.pages.now c.copy_from_slice.new.self c.args.at c.loop-i.i _ c.loop-i-test.true c.requires c.loop-i.invariant
    (c.copy_from_slice.ensures.after ∙ c.page_line.ensures) (omega arith)

pub returns : goal.returns
returns c =
    let e : c.loop-i.i ≡ length c.args.pages.now = omega arith in
    rw (← e) c.loop-i.invariant
