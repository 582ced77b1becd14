-- The loop runs sixteen rounds at a time; the sum follows.
use Rattle.std.proofs.Common.{◌≡◌, ℕ, ◌+◌, ◌*◌, ap, ◌∙◌, arith}
use Rattle.sha256_block.specs.declared.block.Working.{Working}
use Rattle.sha256_block.specs.Block.{words_of, variables, sum_of}
use Rattle.sha256_block.specs.Schedule.{rounds_held, compress_held}
use Rattle.sha256_block.proofs.BlockWords.{length_words}
use Rattle.sha256_block.proofs.Schedule.{none_before, sixteen_more}
use Rattle.sha256_block.proofs.block.compress.Goals as goal
use Rattle.sha256_block.proofs.block.compress.Goals.{then-group-lt-LAST, else-group-lt-LAST}

pub loop-group-init : goal.loop-group-init
loop-group-init c = none_before (variables c.args.h) _ _ _ c.variables-x.ensures c.load-w.ensures

pub loop-group-preserved : goal.loop-group-preserved
loop-group-preserved c =
    let l = c.loop-group in
    let block = c.args.block.now in
    let next : 16 * (l.group + 1) ≡ 16 * l.group + 16 = omega arith in
    rw next
    (elim c.if-group-lt-LAST.branch [
      | then-group-lt-LAST w ↦ sixteen_more _ _ _ _ _ _ _ _ (length_words 16 block) (omega arith) (omega arith) l.invariant c.sixteen_rounds-x.ensures
          c.constants.ensures (λ more. w.w-is ∙ w.next_words.ensures)
      | else-group-lt-LAST w ↦ sixteen_more _ _ _ _ _ _ _ _ (length_words 16 block) (omega arith) (omega arith) l.invariant c.sixteen_rounds-x.ensures
          c.constants.ensures (λ more. absurd (omega arith))
    ])

pub returns : goal.returns
unfolding compress_held
returns c =
    let m = words_of 16 c.args.block.now in
    let e : 16 * c.loop-group.group ≡ 64 = omega arith in
    c.sum.ensures
    ∙ ap (λ (x : Working). sum_of x c.args.h) (c.loop-group.invariant.working ∙ ap (λ (t : ℕ). rounds_held t (variables c.args.h) m) e)
