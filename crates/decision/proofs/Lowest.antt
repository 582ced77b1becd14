-- The lists of a file one after the other: the lowest that permits is the lowest of those that are left, counted from the number that was reached.
use Prim.Native.Nat.{ℕ, ◌+◌}
use mathlib.Core.Path.{◌≡◌, refl, sym, ◌∙◌}
use mathlib.Core.Bool.{Bool, true, false}
use mathlib.Core.List.{List, []}
use native.Mathlib.Numerals.{add-one}
use Rattle.std.specs.Prelude.{Some, None}
use Rattle.policy_answers.specs.Types.{ListAnswer}
use Rattle.policy_grammar.specs.Grammar.{PolicyList}
use Rattle.policy_reader.proofs.Standing as kinds
use Rattle.policy_reader.proofs.Walk.{Front}
use Rattle.answer.specs.Answer.{no_list}
use borrow.Author.Tests.{ne_eqb}
use Rattle.decision.specs.Answers.{number_if}
use Rattle.decision.specs.Lists.{Criteria, of_grammar, permits, some_from, lowest_from, lowest_permitting}
use Rattle.decision.specs.Inner.{ListStands}
use Rattle.decision.proofs.Walking.{not_accepted}

pub record Lowest (k : Criteria) (all : List PolicyList) (i : ℕ) (rest : List PolicyList) : Type 0 where
  pub same : lowest_from 0 (permits k) all ≡ lowest_from i (permits k) rest
  pub some : some_from 0 (permits k) all ≡ some_from i (permits k) rest

pub list_stands : (s : List ℕ) (at : ℕ) (Kept : List PolicyList → Type 0) (e : ListAnswer) (t : Front kinds.list s at Kept e) → ListStands s e t.first
list_stands s at Kept e t = record { at = at; others = t.others; valid = t.valid; stand = t.stand; shown = t.shown }

module _ (k : Criteria) (all : List PolicyList) where
  pub lowest_start : Lowest k all 0 all
  lowest_start = record { same = refl; some = refl }

  pub lowest_end : (i : ℕ) → Lowest k all i [] → no_list ≡ lowest_from 0 (permits k) all
  unfolding lowest_from
  lowest_end i h = sym h.same

  module _ (s : List ℕ) (at i : ℕ) (e : ListAnswer) (t : Front kinds.list s at (Lowest k all i) e) (r : Bool)
      (is : (x : PolicyList) → ListStands s e x → r ≡ permits k i x) where
    r_is : r ≡ permits k i t.first
    r_is = is t.first (list_stands s at (Lowest k all i) e t)

    pub this_permits : r ≡ true → (i ≡ lowest_from 0 (permits k) all) × (some_from 0 (permits k) all ≡ true)
    unfolding lowest_from some_from
    this_permits h = (sym (t.kept.same ∙ rw (sym r_is ∙ h)), t.kept.some ∙ rw (sym r_is ∙ h))

    pub this_does_not : r ≡ false → Lowest k all (i + 1) t.others
    unfolding lowest_from some_from
    this_does_not h = record { same = t.kept.same ∙ rw (sym r_is ∙ h, add-one); some = t.kept.some ∙ rw (sym r_is ∙ h, add-one) }

-- the lowest by its number
pub none_is : (n : ℕ) → no_list ≡ n → None ≡ number_if n
none_is n e = rw (← e)

pub one_is : (i n : ℕ) → i ≡ n → (n ≡ no_list → ⊥) → Some i ≡ number_if n
one_is i n e h = rw (ne_eqb n no_list h, e)

-- a file that is not of the grammar has no lists
pub none_permits : (s : List ℕ) (k : Criteria) → of_grammar s ≡ false → None ≡ number_if (lowest_permitting s k)
unfolding lowest_from lowest_permitting
none_permits s k h = rw (not_accepted s h)
