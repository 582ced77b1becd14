-- `all_meet` meets its contract: the numbers two by two are the ranges, and each is tested.
use mathlib.Core.Path.{◌∙◌}
use borrow.Author.Rules.{rules}
use Rattle.std.specs.Slice.Iter.{chunks_exact_steps}
use Rattle.std.proofs.lemmas.Iterator.{YieldsList}
use Rattle.std.proofs.lemmas.Iterator.Search.{all_from_yields_List}
use Rattle.range.specs.Pairs.{ranges_of}
use Rattle.range.proofs.EachRange.{range_in, pairs_yield, every_is}
use Rattle.range.proofs.pairs.all_meet.Goals as goal

pub returns : goal.returns
returns g c =
    let yields : YieldsList chunks_exact_steps range_in c.chunks_exact.result (ranges_of c.args.pairs.now) =
    record { runs = pairs_yield _ _ c.chunks_exact.ensures.rest c.chunks_exact.ensures.size } in
    all_from_yields_List {v = range_in} (g.C.Condition.met_by c.args.c.now) _ _ _ c.all.ensures.ran yields (λ x b q h. search rules)
    ∙ every_is (g.C.Condition.met_by c.args.c.now) (ranges_of c.args.pairs.now)
