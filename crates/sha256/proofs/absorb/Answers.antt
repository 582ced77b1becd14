-- By whether the part fills the block: the laws say what the state then is.
use Rattle.std.proofs.Common.{refl, ◌∙◌, rules}
use Rattle.sha256.proofs.Hashing.{small, large}
use Rattle.sha256.proofs.absorb.Goals as goal

pub returns-then-part-room : goal.returns-then-part-room
returns-then-part-room c =
    small c.args.s c.args.part.now _ (search rules) refl _ _ c.if-part-room.true c.copy_from_slice.ensures.after

pub returns : goal.returns
returns c =
    large c.args.s c.args.part.now _ (search rules) refl c.if-part-room.false _ (c.copy_from_slice-2.ensures.after ∙ c.split_at.ensures.front)
    _ _ _ _ _ _ c.hash_blocks-first.ensures c.split_at.ensures.back c.hash_blocks-words.ensures c.as_chunks.ensures.back c.copy_from_slice-3.ensures.after
