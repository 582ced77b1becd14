-- Entries tried in turn: the number is that of the first rule that fails, of all rules in order, and where it is 0 what was found is what all entries leave.
use Prim.Native.Nat.{ℕ, ◌+◌, ◌*◌, ◌-◌, ◌<◌}
use mathlib.Core.Path.{◌≡◌, refl, sym, ap, ◌∙◌}
use mathlib.Core.Logic.{⊎_elim}
use mathlib.Core.Bool.{true, false}
use mathlib.Core.List.{List, [], ◌∷◌, ◌++◌, append-nil, append_assoc}
use native.Mathlib.Omega.{arith}
use Rattle.range.specs.declared.Range.{Range}
use Rattle.range.specs.Range.{highest_end}
use Rattle.rules.specs.Rules.{first_failing}
use Rattle.rules.specs.Meaning.{AllSay}
use Rattle.rules.proofs.Rules.{Numbered, stopped, first_append}
use Rattle.rules.specs.declared.refusal.Refusal.{Refusal}
use Rattle.rules.specs.Refusal.{number}
use Rattle.rules.proofs.Refusals.{number_not_0}
use Rattle.std.specs.Prelude.{Result, Ok, Err}
use Rattle.rules.proofs.Meaning.{numbered, all_mean}
use Rattle.pages.specs.declared.Kind.{Kind}
use Rattle.pages.specs.declared.Kind.TheVariants.{Pointer, Directory, Page}
use Rattle.pages.specs.Memory.{Memory}
use Rattle.pages.specs.declared.progress.Progress.{Progress}
use Rattle.pages.specs.Entry.{present_of, address_of}
use Rattle.pages.specs.Tables.{Found, entries, directory_at, page_at, found_of, found_one, found_from}
use Rattle.pages.specs.Rules.{State, after, after_entry, after_all, entry_rules, rules_from}
use Rattle.pages.specs.Meaning.{own_meanings, entry_meanings, meanings_from}
use Rattle.pages.specs.Inner.{state_of, Above, Room, Tried}
use Rattle.pages.proofs.Found.{found_append, found_last}
use Rattle.pages.proofs.Joined.{table_absent}
use Rattle.pages.proofs.Conditions.{entry_agree, from_agree}

-- RULES IN ORDER

module _ (window : Range) (m : Memory) where
  -- no rule has the number 0
  pub rules_numbered : (s : State) (es : List Found) → Numbered (rules_from window m s es)
  rules_numbered s es = numbered (rules_from window m s es) (meanings_from window m s es) (from_agree window m s es)

  pub rules_append : (s : State) (es fs : List Found) → rules_from window m s (es ++ fs) ≡ rules_from window m s es ++ rules_from window m (after_all s es) fs
  unfolding rules_from
  rules_append s [] fs = refl
  rules_append s (e ∷ es) fs =
      rw (rules_append (after_entry s e) es fs)
      (sym (append_assoc (entry_rules e.kind window m s e.number e.entry) (rules_from window m (after_entry s e) es) (rules_from window m (after_all (after_entry s e) es) fs)))

pub after_append : (s : State) (es fs : List Found) → after_all s (es ++ fs) ≡ after_all (after_all s es) fs
after_append s [] fs = refl
after_append s (e ∷ es) fs = after_append (after_entry s e) es fs

-- an address has 52 bits
pub address_below : (e : ℕ) → address_of e < highest_end
unfolding address_of
address_below e = omega arith

-- ENTRIES TRIED

not_both : {p : Progress} {e : Refusal} → ◌≡◌ {A = Result Progress Refusal} (Err e) (Ok p) → ⊥
not_both e = cc

same_progress : {p q : Progress} → ◌≡◌ {A = Result Progress Refusal} (Ok p) (Ok q) → p ≡ q
same_progress e = cc

module _ (window : Range) (m : Memory) where
  abbrev number_after : Progress → List Found → ℕ
  number_after p es = first_failing (rules_from window m (state_of m p) es)

  -- by the number and by what was found
  passed : (p q : Progress) (es : List Found) → 0 ≡ number_after p es → state_of m q ≡ after_all (state_of m p) es → Tried window m p (Ok q) es
  passed p q es z f = record { number = z; state = λ o e. ap (state_of m) (sym (same_progress e)) ∙ f }

  refused : (p : Progress) (e : Refusal) (es : List Found) → number e ≡ number_after p es → Tried window m p (Err e) es
  refused p e es f = record { number = f; state = λ o g. absurd (not_both g) }

  pub tried_none : (p : Progress) → Tried window m p (Ok p) []
  unfolding rules_from
  tried_none p = passed p p [] refl refl

  -- entries after others
  module _ (p q : Progress) (es fs : List Found) (x : Tried window m p (Ok q) es) where
    numbers : number_after p (es ++ fs) ≡ number_after q fs
    numbers =
        rw (rules_append window m (state_of m p) es fs, x.state q refl)
        (first_append (rules_from window m (state_of m p) es) (rules_from window m (after_all (state_of m p) es) fs) (rules_numbered window m (state_of m p) es)
        ∙ rw (← x.number))

    pub tried_then : (r : Result Progress Refusal) → Tried window m q r fs → Tried window m p r (es ++ fs)
    tried_then r y = record {
      number = y.number ∙ sym numbers;
      state = λ o e. y.state o e ∙ rw (x.state q refl, after_append (state_of m p) es fs);
    }

  -- nothing more is tried after a rule has failed
  pub tried_refused : (p : Progress) (e : Refusal) (es fs : List Found) → Tried window m p (Err e) es → Tried window m p (Err e) (es ++ fs)
  tried_refused p e es fs x =
      refused p e (es ++ fs)
      (rw (rules_append window m (state_of m p) es fs)
      (sym (stopped (rules_from window m (state_of m p) es) (rules_from window m (after_all (state_of m p) es) fs) (number e) (number_not_0 e) (sym x.number))))

  -- what a `?` returns
  pub returned : (p : Progress) (es : List Found) {r : Result Progress Refusal} {e : Refusal} → ((y : Refusal) × (r ≡ Err y) × (y ≡ e))
      → Tried window m p (Err e) es → Tried window m p r es
  returned p es h x = rw (h.1, h.2) x

  -- ONE ENTRY

  -- the rules of one entry, with none after it
  single : (k : Kind) (s : State) (l e : ℕ) → first_failing (rules_from window m s (found_of k l e ∷ [])) ≡ first_failing (entry_rules k window m s l e)
  unfolding rules_from
  single k s l e = ap first_failing (append-nil (entry_rules k window m s l e))

  module _ (k : Kind) (p : Progress) (l e : ℕ) where
    pub step_absent : present_of e ≡ false → Tried window m p (Ok p) (found_one k l e)
    step_absent h = rw h (tried_none p)

    pub step_fault : (x : Refusal) → present_of e ≡ true → number x ≡ first_failing (entry_rules k window m (state_of m p) l e)
        → Tried window m p (Err x) (found_one k l e)
    step_fault x h f = rw h (refused p x (found_of k l e ∷ []) (f ∙ sym (single k (state_of m p) l e)))

    pub step_passed : (q : Progress) → present_of e ≡ true → 0 ≡ first_failing (entry_rules k window m (state_of m p) l e)
        → ((m : Memory) → state_of m q ≡ after k (state_of m p) l (address_of e)) → Tried window m p (Ok q) (found_one k l e)
    step_passed q h f s = rw h (passed p q (found_of k l e ∷ []) (f ∙ sym (single k (state_of m p) l e)) (s m))

  -- where an entry breaks no rule, its address is above all that was found, and it can be counted
  module _ (k : Kind) (p : Progress) (l e : ℕ) (z : 0 ≡ first_failing (entry_rules k window m (state_of m p) l e)) where
    says : AllSay (entry_meanings k window m (state_of m p) l e)
    says = (all_mean (entry_rules k window m (state_of m p) l e) (entry_meanings k window m (state_of m p) l e) (entry_agree window m k (state_of m p) l e)).0 (sym z)

    pub above : Above p (address_of e)
    above = record { above = says.1.1.0; below = address_below e }

    pub room : Room k p l
    room = by k says.1.1.1.1
      where
        by : (k : Kind) → AllSay (own_meanings k m (state_of m p) l (address_of e)) → Room k p l
        by Pointer h = h.0
        by Directory h = h.0
        by Page h = ⊎_elim (λ c. omega arith) (λ q. omega arith) h.0

  -- ENTRIES OF A LEVEL

  module _ (k : Kind) (f : ℕ → ℕ) (p q : Progress) where
    -- one entry more
    pub span_more : (r : Result Progress Refusal) (l i e : ℕ) → Tried window m p (Ok q) (found_from k f l i) → Tried window m q r (found_one k (l + i) e) → e ≡ f (l + i)
        → Tried window m p r (found_from k f l (i + 1))
    span_more r l i e x y g = rw (found_last k f l i) (tried_then p q (found_from k f l i) (found_one k (l + i) (f (l + i))) x r (rw g at y))

    -- one entry more, and none after it
    pub span_stops : (x : Refusal) (l n i e : ℕ) → i < n → Tried window m p (Ok q) (found_from k f l i) → Tried window m q (Err x) (found_one k (l + i) e) → e ≡ f (l + i)
        → Tried window m p (Err x) (found_from k f l n)
    span_stops x l n i e h before here g =
        let split : n ≡ (i + 1) + (n - (i + 1)) = omega arith in
        rw (split, found_append k f l (i + 1) (n - (i + 1))) (tried_refused p x _ _ (span_more (Err x) l i e before here g))

    -- one table more
    pub table_more : (r : Result Progress Refusal) (d : ℕ) → Tried window m p (Ok q) (found_from k f 0 (entries * d)) → Tried window m q r (found_from k f (entries * d) entries)
        → Tried window m p r (found_from k f 0 (entries * (d + 1)))
    table_more r d x y =
        let a : entries * (d + 1) ≡ entries * d + entries = omega arith in
        let b : 0 + entries * d ≡ entries * d = omega arith in
        rw (a, found_append k f 0 (entries * d) entries, b) (tried_then p q (found_from k f 0 (entries * d)) (found_from k f (entries * d) entries) x r y)

    pub table_stops : (x : Refusal) (n d : ℕ) → d < n → Tried window m p (Ok q) (found_from k f 0 (entries * d)) → Tried window m q (Err x) (found_from k f (entries * d) entries)
        → Tried window m p (Err x) (found_from k f 0 (entries * n))
    table_stops x n d h before here =
        let split : entries * n ≡ entries * (d + 1) + (entries * n - entries * (d + 1)) = omega arith in
        rw (split, found_append k f 0 (entries * (d + 1)) (entries * n - entries * (d + 1))) (tried_refused p x _ _ (table_more (Err x) d before here))

-- the pages of a directory entry that is absent leave everything as it was
pub table_skipped : (window : Range) (m : Memory) (w : List ℕ) (base t d : ℕ) (p : Progress) → present_of (directory_at w base t d) ≡ false
    → Tried window m p (Ok p) (found_from Page (page_at w base t) (entries * d) entries)
table_skipped window m w base t d p h = rw (table_absent w base t d h) (tried_none window m p)
