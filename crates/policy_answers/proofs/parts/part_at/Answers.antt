-- `part_at` meets its contract: a part that does not fit has no bytes.
use Prim.Native.Nat.{ℕ}
use native.Mathlib.Omega.{arith}
use mathlib.Core.Path.{refl, ap, ◌∙◌}
use mathlib.Core.List.{List}
use denote.Bor.{Bor}
use Rattle.policy_answers.proofs.Slices.{past_end, rest_is}
use Rattle.policy_answers.proofs.PartTests.{outside, part_of_rest}
use Rattle.policy_answers.proofs.parts.part_at.Goals as goal

pub returns-in_default : goal.returns-in_default
returns-in_default c =
    let l = past_end _ _ _ c.get.ensures.lookup c.in_default.is in
    outside _ _ _ (omega arith)

pub returns : goal.returns
returns c =
    let r = rest_is _ _ _ c.get.ensures.lookup _ c.in-Some.is in
    ap (λ (b : Bor (List ℕ)). b.now) c.unwrap_or.ensures ∙ part_of_rest _ _ _ _ r _ c.get-2.ensures.lookup _ refl
