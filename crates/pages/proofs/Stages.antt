-- The rules of the walk, level by level, and what was found after each level.
use Prim.Native.Nat.{ℕ}
use mathlib.Core.Path.{◌≡◌, ◌∙◌}
use mathlib.Core.Logic.{◌↔◌}
use mathlib.Core.List.{List, ◌++◌}
use Rattle.rules.specs.Rules.{AllHold}
use Rattle.rules.proofs.Rules.{all_append}
use Rattle.pages.specs.declared.Kind.{Kind}
use Rattle.pages.specs.declared.Kind.TheVariants.{Pointer, Directory, Page}
use Rattle.pages.specs.Memory.{Memory}
use Rattle.pages.specs.Tables.{Found, level_size, found_from, found_in, found}
use Rattle.pages.specs.Rules.{State, start_of, after_all, base_rules, rules_from, walk_rules, end_state}
use Rattle.pages.specs.Meaning.{entry}
use Rattle.pages.proofs.Tried.{rules_append, after_append}
use Rattle.pages.proofs.Conditions.{window}

module _ (w : List ℕ) (m : Memory) (t : ℕ) where
  abbrev pub level : Kind → List Found
  level k = found_from k (entry w m t k) 0 (level_size k)

  abbrev pub after_pointers : State
  after_pointers = after_all (start_of m t) (level Pointer)

  abbrev pub after_directories : State
  after_directories = after_all after_pointers (level Directory)

  pub record Stages : Type 0 where
    pub base : AllHold (base_rules (window w m t) m t)
    pub pointers : AllHold (rules_from (window w m t) m (start_of m t) (level Pointer))
    pub directories : AllHold (rules_from (window w m t) m after_pointers (level Directory))
    pub pages : AllHold (rules_from (window w m t) m after_directories (level Page))

  -- two stretches of entries
  two : (s : State) (es fs : List Found)
      → AllHold (rules_from (window w m t) m s (es ++ fs)) ↔ (AllHold (rules_from (window w m t) m s es) × AllHold (rules_from (window w m t) m (after_all s es) fs))
  two s es fs =
      rw (rules_append (window w m t) m s es fs) (all_append (rules_from (window w m t) m s es) (rules_from (window w m t) m (after_all s es) fs))

  pub stages : AllHold (walk_rules w m t) ↔ Stages
  unfolding walk_rules found found_in
  stages =
      let base = all_append (base_rules (window w m t) m t) (rules_from (window w m t) m (start_of m t) (found w m.window t)) in
      let first = two (start_of m t) (level Pointer) (level Directory ++ level Page) in
      let second = two after_pointers (level Directory) (level Page) in (
        λ h.
            let a = base.0 h in
            let b = first.0 a.1 in
            let c = second.0 b.1 in
            record { base = a.0; pointers = b.0; directories = c.0; pages = c.1 },
        λ h. base.1 (h.base, first.1 (h.pointers, second.1 (h.directories, h.pages))),
      )

  pub end_state_lem : end_state w m t ≡ after_all after_directories (level Page)
  unfolding end_state found found_in
  end_state_lem = after_append (start_of m t) (level Pointer) (level Directory ++ level Page) ∙ after_append after_pointers (level Directory) (level Page)
