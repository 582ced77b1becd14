-- Entries in turn, over any invariant: what each entry keeps holds at the end, and where it rules out each fault there is none.
use Prim.Native.Nat.{ℕ, zero, suc, ◌+◌, ◌≤◌, ◌<◌}
use mathlib.Core.Path.{◌≡◌, refl}
use mathlib.Core.Bool.{Bool, true, false, cond}
use mathlib.Core.List.{List, [], ◌∷◌, ◌++◌}
use native.Mathlib.Omega.{arith}
use Rattle.range.specs.declared.Range.{Range}
use Rattle.rules.specs.Rules.{AllHold}
use Rattle.rules.proofs.Rules.{all_append}
use Rattle.pages.specs.declared.Kind.{Kind}
use Rattle.pages.specs.Memory.{Memory}
use Rattle.pages.specs.Entry.{present_of, address_of}
use Rattle.pages.specs.Tables.{Found, found_of, found_from}
use Rattle.pages.specs.Rules.{State, after, after_all, entry_rules, rules_from}

module _ (k : Kind) (window : Range) (m : Memory) (f : ℕ → ℕ) (I : State → ℕ → Type 0)
    (absent : (s : State) (l : ℕ) → I s l → present_of (f l) ≡ false → I s (suc l)) where
  -- the entry with the number l, where it is present, and n entries after it
  abbrev list : Bool → ℕ → ℕ → List Found
  list here l n = cond here (found_of k l (f l) ∷ []) [] ++ found_from k f (suc l) n

  module _ (next : (s : State) (l : ℕ) → I s l → present_of (f l) ≡ true → AllHold (entry_rules k window m s l (f l)) → I (after k s l (address_of (f l))) (suc l)) where
    abbrev Keeps : ℕ → Type 0
    Keeps n = (s : State) (l : ℕ) → I s l → AllHold (rules_from window m s (found_from k f l n)) → I (after_all s (found_from k f l n)) (l + n)

    pub kept : (n : ℕ) → Keeps n
    unfolding found_from rules_from
    kept zero s l i h =
        let a : l + 0 ≡ l = omega arith in
        rw a i
    kept (suc n) s l i h =
        let a : l + suc n ≡ suc l + n = omega arith in
        rw a (by (kept n) (present_of (f l)) refl h)
      where
        by : Keeps n → (here : Bool) → present_of (f l) ≡ here → AllHold (rules_from window m s (list here l n)) → I (after_all s (list here l n)) (suc l + n)
        by rest true e h =
            let p = (all_append (entry_rules k window m s l (f l)) (rules_from window m (after k s l (address_of (f l))) (found_from k f (suc l) n))).0 h in
            rest (after k s l (address_of (f l))) (suc l) (next s l i e p.0) p.1
        by rest false e h = rest s (suc l) (absent s l i e) h

  module _ (size : ℕ) (next : (s : State) (l : ℕ) → l < size → I s l → present_of (f l) ≡ true
      → AllHold (entry_rules k window m s l (f l)) × I (after k s l (address_of (f l))) (suc l)) where
    abbrev Passes : ℕ → Type 0
    Passes n = (s : State) (l : ℕ) → l + n ≤ size → I s l
        → AllHold (rules_from window m s (found_from k f l n)) × I (after_all s (found_from k f l n)) (l + n)

    pub passes : (n : ℕ) → Passes n
    unfolding found_from rules_from
    passes zero s l b i =
        let a : l + 0 ≡ l = omega arith in
        (tt, rw a i)
    passes (suc n) s l b i =
        let a : l + suc n ≡ suc l + n = omega arith in
        rw a (by (passes n) (present_of (f l)) refl)
      where
        by : Passes n → (here : Bool) → present_of (f l) ≡ here → AllHold (rules_from window m s (list here l n)) × I (after_all s (list here l n)) (suc l + n)
        by rest true e =
            let g = next s l (omega arith) i e in
            let r = rest (after k s l (address_of (f l))) (suc l) (omega arith) g.1 in
            ((all_append (entry_rules k window m s l (f l)) (rules_from window m (after k s l (address_of (f l))) (found_from k f (suc l) n))).1 (g.0, r.0), r.1)
        by rest false e = rest s (suc l) (omega arith) (absent s l i e)
