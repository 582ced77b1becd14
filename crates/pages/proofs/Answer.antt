-- The walk: where the base, the pointer entries, the directory entries and the pages were tried in turn, its answer is that of all rules.
use mathlib.Core.Path.{◌≡◌, refl, sym, ap, ◌∙◌}
use mathlib.Core.List.{List}
use Prim.Native.Nat.{ℕ}
use Rattle.range.specs.declared.Range.{Range}
use Rattle.rules.specs.Rules.{first_failing}
use Rattle.rules.specs.declared.refusal.Refusal.{Refusal}
use Rattle.rules.specs.Refusal.{number, numbered}
use Rattle.rules.proofs.Rules.{Numbered, stopped, first_append}
use Rattle.rules.proofs.Meaning.{numbered as numbered_rules}
use Rattle.rules.proofs.Refusals.{number_not_0, refusal_at, value_after}
use Rattle.std.specs.Prelude.{Result, Ok, Err}
use Rattle.pages.specs.declared.Mapped.{Mapped}
use Rattle.pages.specs.declared.progress.Progress.{Progress}
use Rattle.pages.specs.Memory.{Memory, window_of}
use Rattle.pages.specs.Tables.{found}
use Rattle.pages.specs.Rules.{State, start_of, base_rules, rules_from, walk_rules, end_state, mapped, answer_of, walk_of}
use Rattle.pages.specs.Meaning.{base_meanings, walk_meanings}
use Rattle.pages.specs.Inner.{state_of, Tried}
use Rattle.pages.proofs.Conditions.{base_agree, walk_agree}

module _ (w : List ℕ) (m : Memory) (t : ℕ) where
  abbrev window : Range
  window = window_of w m.window

  pub walk_numbered : Numbered (walk_rules w m t)
  walk_numbered = numbered_rules (walk_rules w m t) (walk_meanings w m t) (walk_agree w m t)

  -- what a `?` returns where the base breaks a rule, and where an entry does
  pub base_refused : {r : Result Mapped Refusal} {e : Refusal} → ((y : Refusal) × (r ≡ Err y) × (y ≡ e)) → number e ≡ first_failing (base_rules window m t)
      → numbered r ≡ walk_of w m t
  unfolding walk_of answer_of walk_rules
  base_refused {r} {e} h f =
      refusal_at _ _ h (sym (stopped (base_rules window m t) (rules_from window m (start_of m t) (found w m.window t)) (number e) (number_not_0 e) (sym f)))

  module _ (start : Progress) (base : 0 ≡ first_failing (base_rules window m t)) (first : state_of m start ≡ start_of m t) where
    left : first_failing (walk_rules w m t) ≡ first_failing (rules_from window m (state_of m start) (found w m.window t))
    unfolding walk_rules
    left =
        first_append (base_rules window m t) (rules_from window m (start_of m t) (found w m.window t)) (numbered_rules (base_rules window m t) (base_meanings window m t) (base_agree window m t))
        ∙ rw (← base, first)

    pub entry_refused : {r : Result Mapped Refusal} {e : Refusal} → ((y : Refusal) × (r ≡ Err y) × (y ≡ e)) → Tried window m start (Err e) (found w m.window t)
        → numbered r ≡ walk_of w m t
    unfolding walk_of answer_of
    entry_refused h x = refusal_at _ _ h (x.number ∙ sym left)

    pub walk_mapped : (end : Progress) → Tried window m start (Ok end) (found w m.window t) → numbered (Ok (record { first = end.first; count = end.count })) ≡ walk_of w m t
    unfolding walk_of answer_of end_state
    walk_mapped end x =
        let e : state_of m end ≡ end_state w m t = rw first at (x.state end refl) in
        ap (λ (s : State). mapped s.first s.count) e ∙ value_after _ _ (x.number ∙ sym left)
