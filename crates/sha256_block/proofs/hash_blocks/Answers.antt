-- The blocks that are left give the same hash value as the loop goes on.
use Rattle.std.proofs.Common.{ℕ, ◌+◌, ◌/◌, List, [], length, drop, sym, ap, ◌∙◌}
use Rattle.std.proofs.lemmas.List.{at_drop_more, at_drop_all}
use Rattle.sha256_block.proofs.Blocks.{over, over_chunks}
use Rattle.sha256_block.proofs.Schedule.{compress_held_lem}
use Rattle.sha256_block.proofs.hash_blocks.Goals as goal

pub loop-block-init : goal.loop-block-init
loop-block-init c =
    let s = c.args.s.now in
    ap (over c.args.h) c.as_chunks.ensures.front ∙ over_chunks (length s / 64) c.args.h s

pub loop-block-preserved : goal.loop-block-preserved
loop-block-preserved c =
    let blocks = c.as_chunks.result.0.now in
    let i = c.loop-block.block-index in
    ap (λ (h : List ℕ). over h (drop (i + 1) blocks)) (c.compress-next.ensures ∙ compress_held_lem _ _)
    ∙ sym (at_drop_more (over c.loop-block.words) blocks i [] c.loop-block-test.true)
    ∙ c.loop-block.invariant

pub returns : goal.returns
returns c = sym (at_drop_all (over c.loop-block.words) _ c.loop-block.block-index c.loop-block-test.false) ∙ c.loop-block.invariant
