-- Where the entries that are present obey all rules, no rule of the walk fails; and the pages that the rules speak of are determined.
use Prim.Native.Nat.{ℕ, zero, suc, ◌+◌, ◌-◌, ◌≤◌, ◌<◌}
use mathlib.Core.Path.{◌≡◌, refl, sym, ◌∙◌}
use mathlib.Core.Logic.{inl, inr}
use mathlib.Core.Bool.{Bool, true, false, cond, true≢false}
use mathlib.Core.List.{List}
use native.Mathlib.Omega.{arith}
use borrow.Author.Tests.{leb-true, leb-false, eq-eqb, ne_eqb}
use lib.Dec.{leb, eqb}
use Rattle.rules.specs.Rules.{AllHold}
use Rattle.rules.specs.Meaning.{AllSay}
use Rattle.pages.specs.declared.Kind.{Kind}
use Rattle.pages.specs.declared.Kind.TheVariants.{Pointer, Directory, Page}
use Rattle.pages.specs.Entry.{present_of, address_of}
use Rattle.pages.specs.Memory.{Memory, regions, holding}
use Rattle.pages.specs.Tables.{level_size}
use Rattle.pages.specs.Rules.{State, most_tables, start_of, after_table, after_page, after, after_all, entry_rules, rules_from, walk_rules}
use Rattle.pages.specs.Meaning.{Protected, position, present_below, entry, Present, named, table_meanings, own_meanings, Walks}
use Rattle.pages.proofs.Found.{below_none, below_present, below_absent, below_more}
use Rattle.pages.proofs.Conditions.{window, fine_exactly, base_exactly}
use Rattle.pages.proofs.Regions.{common, common_absent, common_next, held_all}
use Rattle.pages.proofs.Invariants.{passes}
use Rattle.pages.proofs.Stages.{level, after_pointers, after_directories, stages}

-- the first linear page after one page more
first_page : (c l f : ℕ) → c ≡ 0 → cond (eqb c 0) l f ≡ l
first_page c l f e = rw (eq-eqb c 0 e)

later_page : (c l f : ℕ) → (c ≡ 0 → ⊥) → cond (eqb c 0) l f ≡ f
later_page c l f e = rw (ne_eqb c 0 e)

module _ (w : List ℕ) (m : Memory) (t f n : ℕ) (h : Walks w m t f n) where
  -- every entry from a position on has an address above the last
  abbrev Ahead : State → ℕ → Type 0
  Ahead s p = (k : Kind) (l : ℕ) → p ≤ position k l → Present w m t k l → s.last < address_of (entry w m t k l)

  -- an entry obeys all rules where it obeys those of its kind
  entry_holds : (k : Kind) (s : State) (l : ℕ) → Ahead s (position k l) → Present w m t k l → AllSay (own_meanings k m s l (address_of (entry w m t k l)))
      → AllHold (entry_rules k (window w m t) m s l (entry w m t k l))
  entry_holds k s l a p o =
      (fine_exactly w m t k s l (entry w m t k l)).1
      (record { sound = record { reserved = h.reserved k l p; placed = h.placed k l p }; above = a k l (omega arith) p; own = o })

  -- A LEVEL OF TABLES, with b tables before it

  module _ (k : Kind) (table : (s : State) (l a : ℕ) → after k s l a ≡ after_table s a)
      (own : (s : State) (l a : ℕ) → AllSay (table_meanings m s a) → AllSay (own_meanings k m s l a)) (b : ℕ)
      (most : b + present_below (entry w m t k) (level_size k) ≤ most_tables) (held : (l : ℕ) → Present w m t k l → Protected (regions m) (named w m t k l)) where
    record Tables (s : State) (l : ℕ) : Type 0 where
      pub ahead : Ahead s (position k l)
      pub tables : s.tables ≡ b + present_below (entry w m t k) l
      pub count : s.count ≡ 0
      pub all : s.common ≡ regions m

    tables_absent : (s : State) (l : ℕ) → Tables s l → present_of (entry w m t k l) ≡ false → Tables s (suc l)
    tables_absent s l i e =
        record { ahead = λ j x q p. i.ahead j x (omega arith) p; tables = rw (below_absent (entry w m t k) l e) i.tables; count = i.count; all = i.all }

    tables_next : (s : State) (l : ℕ) → l < level_size k → Tables s l → Present w m t k l
        → AllHold (entry_rules k (window w m t) m s l (entry w m t k l)) × Tables (after k s l (address_of (entry w m t k l))) (suc l)
    tables_next s l z i p =
        let d : suc l + (level_size k - suc l) ≡ level_size k = omega arith in
        let rest = rw d at (below_more (entry w m t k) (level_size k - suc l) (suc l)) in
        let one = below_present (entry w m t k) l p in (
          entry_holds k s l i.ahead p (own s l _ (omega (arith, i.tables), (held l p, tt))),
          rw (table s l (address_of (entry w m t k l)))
              (record { ahead = λ j x q g. h.rising k j l x p g (omega arith); tables = omega (arith, i.tables); count = i.count; all = i.all }),
        )

    tables_pass : (s : State) → Ahead s (position k 0) → s.tables ≡ b → s.count ≡ 0 → s.common ≡ regions m
        → AllHold (rules_from (window w m t) m s (level w m t k)) × Tables (after_all s (level w m t k)) (level_size k)
    tables_pass s a e c g =
        let o : 0 + level_size k ≡ level_size k = omega arith in
        let none : Tables s 0 = record { ahead = a; tables = omega (arith, below_none (entry w m t k)); count = c; all = g } in
        rw o at (passes k (window w m t) m (entry w m t k) Tables tables_absent (level_size k) tables_next (level_size k) s 0 (omega arith) none)

  -- THE LEVEL OF PAGES

  record Pages (s : State) (l : ℕ) : Type 0 where
    pub ahead : Ahead s (position Page l)
    pub before : l ≤ f → s.count ≡ 0
    pub inside : f < l → l ≤ f + n → (s.first ≡ f) × (s.count ≡ l - f)
    pub left : s.common ≡ common w m t l

  pages_absent : (s : State) (l : ℕ) → Pages s l → present_of (entry w m t Page l) ≡ false → Pages s (suc l)
  pages_absent s l i e =
      record {
        ahead = λ j x q p. i.ahead j x (omega arith) p;
        before = λ q. i.before (omega arith);
        inside = λ a b. absurd (true≢false (sym (h.pages l (omega arith) (omega arith)) ∙ e));
        left = common_absent w m t s.common l i.left e;
      }

  pages_next : (s : State) (l : ℕ) → l < level_size Page → Pages s l → Present w m t Page l
      → AllHold (entry_rules Page (window w m t) m s l (entry w m t Page l)) × Pages (after_page s l (address_of (entry w m t Page l))) (suc l)
  pages_next s l z i p = by (leb l f) refl
    where
      u : (f ≤ l) × (l < f + n)
      u = h.only l p

      ahead : Ahead (after_page s l (address_of (entry w m t Page l))) (position Page (suc l))
      ahead j x q g = h.rising Page j l x p g (omega arith)

      left : holding s.common (address_of (entry w m t Page l)) ≡ common w m t (suc l)
      left = common_next w m t s.common l i.left p

      protected : Protected s.common (named w m t Page l)
      protected = rw i.left (held_all w m t h.protected l p)

      by : (x : Bool) → leb l f ≡ x
          → AllHold (entry_rules Page (window w m t) m s l (entry w m t Page l)) × Pages (after_page s l (address_of (entry w m t Page l))) (suc l)
      by true q =
          let le = leb-true l f q in
          let c = i.before le in (
            entry_holds Page s l i.ahead p (inl c, (protected, tt)),
            record {
              ahead = ahead;
              before = λ x. absurd (omega (arith, u));
              inside = λ x y. (first_page s.count l s.first c ∙ omega (arith, u), omega (arith, u));
              left = left;
            },
          )
      by false q =
          let lt = leb-false l f q in
          let c = i.inside lt (omega (arith, u)) in (
            entry_holds Page s l i.ahead p (inr (omega (arith, c.0, c.1)), (protected, tt)),
            record {
              ahead = ahead;
              before = λ x. absurd (omega (arith, u));
              inside = λ x y. (later_page s.count l s.first (λ z. omega (arith, c.1)) ∙ c.0, omega (arith, c.1));
              left = left;
            },
          )

  -- ALL LEVELS

  pub permits : AllHold (walk_rules w m t)
  permits =
      let a =
      tables_pass Pointer (λ s l a. refl) (λ s l a x. x) 1 (omega (arith, h.tables)) h.tables_protected.directories (start_of m t)
      (λ k l q p. h.above k l p)
      refl
      refl
      refl in
      let b =
      tables_pass Directory (λ s l a. refl) (λ s l a x. x) (1 + present_below (entry w m t Pointer) (level_size Pointer)) h.tables
      h.tables_protected.page_tables
      (after_pointers w m t)
      (λ k l q p. a.1.ahead k l (omega arith) p)
      a.1.tables
      a.1.count
      a.1.all in
      let start : Pages (after_directories w m t) 0 = record {
        ahead = λ k l q p. b.1.ahead k l (omega arith) p;
        before = λ x. b.1.count;
        inside = λ x. absurd (omega arith);
        left = b.1.all;
      } in
      (stages w m t).1
      (record {
        base = (base_exactly w m t).1 (h.aligned, (h.base_placed, h.tables_protected.base));
        pointers = a.0;
        directories = b.0;
        pages = (passes Page (window w m t) m (entry w m t Page) Pages pages_absent (level_size Page) pages_next (level_size Page) (after_directories w m t) 0 (omega arith) start).0;
      })

-- THE PAGES ARE DETERMINED

module _ (w : List ℕ) (m : Memory) (t : ℕ) where
  at_most : (f n g o : ℕ) → Walks w m t f n → Walks w m t g o → n ≤ o
  at_most f zero g o a b = omega arith
  at_most f (suc n) g o a b =
      omega (arith, b.only f (a.pages f (omega arith) (omega arith)), b.only (f + n) (a.pages (f + n) (omega arith) (omega arith)))

  from_on : (f n g o : ℕ) → Walks w m t f (suc n) → Walks w m t g o → g ≤ f
  from_on f n g o a b = (b.only f (a.pages f (omega arith) (omega arith))).0

  pub walks_unique : (f n g o : ℕ) → Walks w m t f n → Walks w m t g o → (f ≡ g) × (n ≡ o)
  walks_unique f n g o a b = by n o (at_most f n g o a b) (at_most g o f n b a) a b
    where
      by : (n o : ℕ) → n ≤ o → o ≤ n → Walks w m t f n → Walks w m t g o → (f ≡ g) × (n ≡ o)
      by zero zero x y a b = (a.no_page refl ∙ sym (b.no_page refl), refl)
      by zero (suc o) x y a b = absurd (omega arith)
      by (suc n) zero x y a b = absurd (omega arith)
      by (suc n) (suc o) x y a b = (omega (arith, from_on f n g (suc o) a b, from_on g o f (suc n) b a), omega arith)
