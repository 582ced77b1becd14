-- `numbered` meets its contract. The invariant: the walk from where it stands, with the number that is left, gives what the whole walk gives.
use Prim.Native.Nat.{suc, ◌+◌, ◌-◌}
use native.Mathlib.Omega.{arith}
use mathlib.Core.Path.{◌≡◌, sym, ◌∙◌}
use borrow.Author.Rules.{rules}
use Rattle.policy.proofs.Walked.{walked_on}
use Rattle.policy.proofs.numbered.numbered.Goals as goal

pub loop-preserved : goal.loop-preserved
loop-preserved g c =
    let i : c.args.k - c.loop.counter ≡ suc (c.args.k - (c.loop.counter + 1)) = omega arith in
    (search rules, c.loop.invariant.1 ∙ walked_on g.T.Standing.read g.T.Standing.size c.args.s.now c.loop.at _ _ i _ (sym c.stands_at.ensures ∙ c.in_ok-stands_at.was) _ c.size.ensures)
