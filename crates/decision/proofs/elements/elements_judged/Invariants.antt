use Prim.Native.Nat.{◌-◌}
use mathlib.Core.List.{List}
use lib.ListN.{length}
use Rattle.policy_grammar.specs.Grammar.{Element}
use Rattle.policy_reader.proofs.Standing as kinds
use Rattle.policy_reader.proofs.Walk.{Left}
use Rattle.decision.specs.Answers.{criteria_of}
use Rattle.decision.specs.Inner.{ElementsStand}
use Rattle.decision.proofs.Judging.{Judging}
use Rattle.decision.proofs.elements.elements_judged.Given as goal

abbrev pub invariant-loop-at : goal.invariant-loop-at
invariant-loop-at l =
    (es : List Element) → ElementsStand l.t l.start es → Left kinds.element l.t l.at (Judging (criteria_of l.k) es l.named l.holds_stm)

abbrev pub decreases-loop-at : goal.decreases-loop-at
decreases-loop-at l = length l.t - l.at
