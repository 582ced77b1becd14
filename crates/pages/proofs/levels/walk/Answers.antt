-- `walk` meets its contract: it tries the base, then all entries.
use Rattle.std.proofs.lemmas.Result.{err_from_is_err_and}
use Rattle.pages.specs.Memory.{memory_of}
use Rattle.pages.proofs.Answer.{base_refused, entry_refused, walk_mapped}
use Rattle.pages.proofs.levels.walk.Goals as goal

pub returns-in_err-judge_base : goal.returns-in_err-judge_base
returns-in_err-judge_base c =
    base_refused _ _ _ (err_from_is_err_and c.from_residual.result c.from_residual.ensures.1) c.in_err-judge_base.ensures

pub returns-in_err-end : goal.returns-in_err-end
returns-in_err-end c =
    let from = c.from_residual-in_err-end in
    entry_refused _ _ _ _ c.in_ok-judge_base.ensures (c.from_base.ensures (memory_of c.args.m c.args.reserved.now)) (err_from_is_err_and from.result from.ensures.1) c.in_err-end.ensures

pub returns : goal.returns
returns c = walk_mapped _ _ _ _ c.in_ok-judge_base.ensures (c.from_base.ensures (memory_of c.args.m c.args.reserved.now)) _ c.in_ok-end.ensures
