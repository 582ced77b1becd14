-- The tests of the rules say what the propositions of the meaning say.
use Prim.Native.Nat.{ℕ, ◌%◌, ◌<◌}
use mathlib.Core.Path.{◌≡◌}
use mathlib.Core.Logic.{◌↔◌}
use mathlib.Core.Bool.{true}
use mathlib.Core.List.{List, [], ◌∷◌}
use lib.Dec.{lit<}
use Rattle.range.specs.declared.Range.{Range}
use Rattle.range.specs.Range.{inside_of, clear_of, page_size}
use Rattle.rules.specs.Rules.{Every, AllHold}
use Rattle.rules.specs.Meaning.{AllSay}
use Rattle.rules.proofs.Meaning.{Agree, all_say, agrees, agree_append}
use Rattle.rules.proofs.Tests.{◌&◌, eqb_exactly, ltb_exactly, every_exactly, any_exactly}
use Rattle.range.proofs.Ranges.{inside_exactly, clear_exactly}
use Rattle.pages.specs.declared.Kind.{Kind}
use Rattle.pages.specs.declared.Kind.TheVariants.{Pointer, Directory, Page}
use Rattle.pages.specs.Entry.{address_of}
use Rattle.pages.specs.Memory.{Memory, page_of, window_of, forbidden, regions, allowed, protected}
use Rattle.pages.specs.Tables.{Found, found}
use Rattle.pages.specs.Rules.{State, start_of, after_entry, base_rules, table_rules, own_rules, entry_rules, rules_from, walk_rules}
use Rattle.pages.specs.Meaning.{Within, Apart, Protected, Reserved, Placed, base_meanings, table_meanings, own_meanings, entry_meanings, meanings_from, walk_meanings}
use Rattle.pages.proofs.Tests.{follows_exactly}
use Rattle.pages.proofs.Bits.{reserved_exactly}

-- RANGES

within_exactly : (a b : Range) → 0 < a.size → (inside_of a b ≡ true) ↔ Within a b
within_exactly a b z = ((inside_exactly a b).0, (inside_exactly a b).1 z)

-- a page has bytes, so the test says that each of them is in the region
pub page_within : (a : ℕ) (r : Range) → (inside_of (page_of a) r ≡ true) ↔ Within (page_of a) r
page_within a r = within_exactly (page_of a) r (lit< tt)

protected_exactly : (rs : List Range) (a : ℕ) → (protected rs a ≡ true) ↔ Protected rs (page_of a)
unfolding protected
protected_exactly rs a = any_exactly (inside_of (page_of a)) (Within (page_of a)) (page_within a) rs

allowed_exactly : (m : Memory) (a : ℕ) → (allowed m a ≡ true) ↔ Every (Apart (page_of a)) (forbidden m)
unfolding allowed
allowed_exactly m a = every_exactly (clear_of (page_of a)) (Apart (page_of a)) (clear_exactly (page_of a)) (forbidden m)

-- RULES AND MEANINGS

module _ (window : Range) (m : Memory) where
  table_agree : (s : State) (a : ℕ) → Agree (table_rules m s a) (table_meanings m s a)
  table_agree s a = agrees (lit< tt) (ltb_exactly _ _) & agrees (lit< tt) (protected_exactly (regions m) a) & tt

  own_agree : (k : Kind) (s : State) (l a : ℕ) → Agree (own_rules k m s l a) (own_meanings k m s l a)
  own_agree Pointer s l a = table_agree s a
  own_agree Directory s l a = table_agree s a
  own_agree Page s l a = (agrees (lit< tt) (follows_exactly s.first s.count l), (agrees (lit< tt) (protected_exactly s.common a), tt))

  pub entry_agree : (k : Kind) (s : State) (l e : ℕ) → Agree (entry_rules k window m s l e) (entry_meanings k window m s l e)
  entry_agree k s l e =
      agrees (lit< tt) (reserved_exactly k e)
      & agrees (lit< tt) (page_within (address_of e) window)
      & agrees (lit< tt) (ltb_exactly _ _)
      & agrees (lit< tt) (allowed_exactly m (address_of e))
      & own_agree k s l (address_of e)

  pub from_agree : (s : State) (es : List Found) → Agree (rules_from window m s es) (meanings_from window m s es)
  unfolding rules_from meanings_from
  from_agree s [] = tt
  from_agree s (e ∷ es) =
      agree_append (entry_rules e.kind window m s e.number e.entry) (rules_from window m (after_entry s e) es)
      (entry_meanings e.kind window m s e.number e.entry)
      (meanings_from window m (after_entry s e) es)
      (entry_agree e.kind s e.number e.entry)
      (from_agree (after_entry s e) es)

  pub base_agree : (t : ℕ) → Agree (base_rules window m t) (base_meanings window m t)
  base_agree t =
      agrees (lit< tt) (eqb_exactly _ _)
      & agrees (lit< tt) (page_within t window)
      & agrees (lit< tt) (allowed_exactly m t)
      & agrees (lit< tt) (protected_exactly (regions m) t)
      & tt

module _ (w : List ℕ) (m : Memory) (t : ℕ) where
  abbrev pub window : Range
  window = window_of w m.window

  pub walk_agree : Agree (walk_rules w m t) (walk_meanings w m t)
  unfolding walk_rules
  walk_agree =
      agree_append (base_rules window m t) (rules_from window m (start_of m t) (found w m.window t)) (base_meanings window m t)
      (meanings_from window m (start_of m t) (found w m.window t))
      (base_agree window m t)
      (from_agree window m (start_of m t) (found w m.window t))

  -- rules 14, 15 and 17
  pub record Sound (k : Kind) (e : ℕ) : Type 0 where
    pub reserved : Reserved k e
    pub placed : Placed w m t (page_of (address_of e))

  -- all rules of an entry
  pub record Fine (k : Kind) (s : State) (l e : ℕ) : Type 0 where
    pub sound : Sound k e
    pub above : s.last < address_of e
    pub own : AllSay (own_meanings k m s l (address_of e))

  pub fine_exactly : (k : Kind) (s : State) (l e : ℕ) → AllHold (entry_rules k window m s l e) ↔ Fine k s l e
  fine_exactly k s l e =
      let say = all_say (entry_rules k window m s l e) (entry_meanings k window m s l e) (entry_agree window m k s l e) in (
        λ h.
            let x = say.0 h in
            record {
              sound = record { reserved = x.0; placed = record { inside = x.1.0; clear = x.1.1.1.0 } };
              above = x.1.1.0;
              own = x.1.1.1.1;
            },
        λ h. say.1 (h.sound.reserved & h.sound.placed.inside & h.above & h.sound.placed.clear & h.own),
      )

  pub base_exactly : AllHold (base_rules window m t) ↔ ((t % page_size ≡ 0) × (Placed w m t (page_of t) × Protected (regions m) (page_of t)))
  base_exactly =
      let say = all_say (base_rules window m t) (base_meanings window m t) (base_agree window m t) in (
        λ h. let x = say.0 h in (x.0, (record { inside = x.1.0; clear = x.1.1.0 }, x.1.1.1.0)),
        λ h. say.1 (h.0 & h.1.0.inside & h.1.0.clear & h.1.1 & tt),
      )
