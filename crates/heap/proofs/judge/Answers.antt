-- `judge` meets its contract: each rule that fails gives its refusal, and after the last there are the fields.
use Prim.Native.Nat.{ℕ, ◌-◌}
use mathlib.Core.Path.{◌≡◌, refl, ap, ◌∙◌}
use mathlib.Core.Bool.{Bool, true, false, cond}
use mathlib.Core.List.{List}
use lib.Dec.{leb}
use lib.ListN.{length, take, drop}
use Rattle.std.specs.Prelude.{Ok}
use Rattle.std.proofs.lemmas.Result.{err_from_is_err_and}
use Rattle.field.proofs.Laws.{from_offset}
use Rattle.rules.specs.Refusal.{numbered}
use Rattle.rules.specs.Rules.{first_failing}
use Rattle.rules.proofs.Refusals.{held, rule_at, value_after}
use Rattle.heap.specs.declared.OsSinitData.{OsSinitData}
use Rattle.heap.specs.Heap.{fields_of, after_size, version_known, elements_end, pmrs_placed, part_rules, part_answer}
use Rattle.heap.proofs.judge.Goals as goal

abbrev number : List ℕ → ℕ
number part = first_failing (part_rules part)

-- the tests in turn, in the code's terms, each with the number that is left to decide
module _ (part s : List ℕ) (o : OsSinitData) (is-rest : s ≡ take (length part - 8) (drop 8 part)) (long : leb 108 (length part) ≡ true)
    (is-fields : o ≡ fields_of s) (k : Bool) (is_known : k ≡ version_known o.version) where
  after : s ≡ after_size part
  after = is-rest ∙ from_offset part 8

  from_version : number part ≡ cond k (cond (elements_end (drop 92 s)) (cond (pmrs_placed o) 0 5) 4) 3
  from_version = rw (long, ← after, ← is-fields, ← is_known)

  module _ (known : k ≡ true) (e : Bool) (is-end : e ≡ elements_end (take (length s - 92) (drop 92 s))) where
    from_elements : number part ≡ cond e (cond (pmrs_placed o) 0 5) 4
    from_elements = rw (from_version, known, is-end, from_offset s 92)

    unended : e ≡ false → 4 ≡ number part
    unended n = rw (from_elements, n)

    module _ (ended : e ≡ true) (p : Bool) (is_placed : p ≡ pmrs_placed o) where
      from_pmrs : number part ≡ cond p 0 5
      from_pmrs = rw (from_elements, ended, is_placed)

      misplaced : p ≡ false → 5 ≡ number part
      misplaced n = rw (from_pmrs, n)

      accepted : p ≡ true → numbered (Ok o) ≡ part_answer part
      unfolding part_answer
      accepted n = let e : 0 ≡ number part = rw (from_pmrs, n) in rw (is-fields ∙ ap fields_of after) (value_after (fields_of (after_size part)) (number part) e)

pub returns-in_err-require-3 : goal.returns-in_err-require-3
unfolding part_answer
returns-in_err-require-3 c =
    let from = c.from_residual-in_err-require-3 in
    rule_at _ _ _ _ (err_from_is_err_and from.result from.ensures.1) c.in_err-require-3.ensures
    (unended _ _ _ refl (held _ _ c.in_ok-require.ensures) c.fields-o.ensures _ c.known.ensures (held _ _ c.in_ok-require-2.ensures) _ c.elements_end.ensures)

pub returns-in_err-require-4 : goal.returns-in_err-require-4
unfolding part_answer
returns-in_err-require-4 c =
    let from = c.from_residual-in_err-require-4 in
    rule_at _ _ _ _ (err_from_is_err_and from.result from.ensures.1) c.in_err-require-4.ensures
    (misplaced _ _ _ refl (held _ _ c.in_ok-require.ensures) c.fields-o.ensures _ c.known.ensures (held _ _ c.in_ok-require-2.ensures) _ c.elements_end.ensures
    (held _ _ c.in_ok-require-3.ensures) _ c.placed.ensures)

pub returns : goal.returns
returns c =
    accepted _ _ _ refl (held _ _ c.in_ok-require.ensures) c.fields-o.ensures _ c.known.ensures (held _ _ c.in_ok-require-2.ensures) _ c.elements_end.ensures
    (held _ _ c.in_ok-require-3.ensures) _ c.placed.ensures (held _ _ c.in_ok-require-4.ensures)
