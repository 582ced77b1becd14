-- Where no rule of the walk fails, the entries that are present obey all of them, and what was found is what there is.
use Prim.Native.Nat.{ℕ, suc, ◌+◌, ◌≤◌, ◌<◌}
use mathlib.Core.Path.{◌≡◌, refl, sym, ◌∙◌}
use mathlib.Core.Logic.{inl, ⊎_elim}
use mathlib.Core.Bool.{Bool, true, false, cond, true≢false}
use mathlib.Core.List.{List}
use native.Mathlib.Omega.{arith}
use borrow.Author.Tests.{eqb-true, eqb-false}
use lib.Dec.{eqb}
use Rattle.rules.specs.Rules.{Some, AllHold}
use Rattle.rules.specs.Meaning.{AllSay}
use Rattle.rules.proofs.Tests.{some_map}
use Rattle.pages.specs.declared.Kind.{Kind}
use Rattle.pages.specs.declared.Kind.TheVariants.{Pointer, Directory, Page}
use Rattle.pages.specs.Entry.{present_of, address_of}
use Rattle.pages.specs.Memory.{Memory, regions, holding}
use Rattle.pages.specs.Tables.{level_size, found_from}
use Rattle.pages.specs.Rules.{State, most_tables, start_of, after_table, after_page, after, after_all, entry_rules, rules_from, walk_rules, end_state}
use Rattle.pages.specs.Meaning.{Within, position, present_below, entry, Present, named, Protected, HoldsPages, table_meanings, own_meanings, Walks}
use Rattle.pages.proofs.Found.{below_none, below_present, below_absent, in_level_lem}
use Rattle.pages.proofs.Conditions.{window, Sound, Fine, fine_exactly, base_exactly}
use Rattle.pages.proofs.Regions.{upto, Holds, common, common_absent, common_next, held_next}
use Rattle.pages.proofs.Invariants.{kept}
use Rattle.pages.proofs.Stages.{after_pointers, after_directories, Stages, stages, end_state_lem}

module _ (w : List ℕ) (m : Memory) (t : ℕ) where
  -- what is known of the entries with numbers below l, where the level began after the address a
  record Passed (k : Kind) (a last l : ℕ) : Type 0 where
    pub least : a ≤ last
    pub sound : (i : ℕ) → i < l → Present w m t k i → Sound w m t k (entry w m t k i)
    pub above : (i : ℕ) → i < l → Present w m t k i → a < address_of (entry w m t k i)
    pub below : (i : ℕ) → i < l → Present w m t k i → address_of (entry w m t k i) ≤ last
    pub rising : (i j : ℕ) → i < j → j < l → Present w m t k i → Present w m t k j → address_of (entry w m t k i) < address_of (entry w m t k j)

  passed_none : (k : Kind) (a : ℕ) → Passed k a a 0
  passed_none k a = record {
    least = omega arith;
    sound = λ i h. absurd (omega arith);
    above = λ i h. absurd (omega arith);
    below = λ i h. absurd (omega arith);
    rising = λ i j h g. absurd (omega arith);
  }

  -- one number more: where its entry is present, it is sound, above the last address, and at most the new one
  passed_more : (k : Kind) (a last new l : ℕ) → Passed k a last l → last ≤ new
      → (Present w m t k l → Sound w m t k (entry w m t k l) × ((last < address_of (entry w m t k l)) × (address_of (entry w m t k l) ≤ new)))
      → Passed k a new (suc l)
  passed_more k a last new l h le here =
      record {
        least = omega (arith, h.least);
        sound = upto (λ (i : ℕ). Present w m t k i → Sound w m t k (entry w m t k i)) l h.sound (λ p. (here p).0);
        above = upto (λ (i : ℕ). Present w m t k i → a < address_of (entry w m t k i)) l h.above (λ p. omega (arith, h.least, (here p).1.0));
        below = upto (λ (i : ℕ). Present w m t k i → address_of (entry w m t k i) ≤ new) l (λ i x p. omega (arith, h.below i x p)) (λ p. (here p).1.1);
        rising = λ i j x y.
            upto (λ (j : ℕ). i < j → Present w m t k i → Present w m t k j → address_of (entry w m t k i) < address_of (entry w m t k j)) l
            (λ j y x. h.rising i j x y)
            (λ x p q. omega (arith, h.below i x p, (here q).1.0))
            j
            y
            x;
      }

  passed_absent : (k : Kind) (a last l : ℕ) → Passed k a last l → present_of (entry w m t k l) ≡ false → Passed k a last (suc l)
  passed_absent k a last l h e = passed_more k a last last l h (omega arith) (λ p. absurd (true≢false (sym p ∙ e)))

  passed_next : (k : Kind) (a last l : ℕ) → Passed k a last l → Sound w m t k (entry w m t k l) → last < address_of (entry w m t k l)
      → Passed k a (address_of (entry w m t k l)) (suc l)
  passed_next k a last l h s b = passed_more k a last (address_of (entry w m t k l)) l h (omega arith) (λ p. (s, (b, omega arith)))

  -- A LEVEL OF TABLES, with n tables before it

  module _ (k : Kind) (table : (s : State) (l a : ℕ) → after k s l a ≡ after_table s a)
      (own : (s : State) (l a : ℕ) → AllSay (own_meanings k m s l a) → AllSay (table_meanings m s a)) (a n : ℕ) where
    record Tables (s : State) (l : ℕ) : Type 0 where
      pub passed : Passed k a s.last l
      pub tables : s.tables ≡ n + present_below (entry w m t k) l
      pub most : s.tables ≤ most_tables
      pub held : (i : ℕ) → i < l → Present w m t k i → Protected (regions m) (named w m t k i)
      pub first : s.first ≡ 0
      pub count : s.count ≡ 0
      pub all : s.common ≡ regions m

    tables_absent : (s : State) (l : ℕ) → Tables s l → present_of (entry w m t k l) ≡ false → Tables s (suc l)
    tables_absent s l h e =
        record {
          passed = passed_absent k a s.last l h.passed e;
          tables = rw (below_absent (entry w m t k) l e) h.tables;
          most = h.most;
          held = upto (λ (i : ℕ). Present w m t k i → Protected (regions m) (named w m t k i)) l h.held (λ p. absurd (true≢false (sym p ∙ e)));
          first = h.first;
          count = h.count;
          all = h.all;
        }

    tables_next : (s : State) (l : ℕ) → Tables s l → Present w m t k l → AllHold (entry_rules k (window w m t) m s l (entry w m t k l))
        → Tables (after k s l (address_of (entry w m t k l))) (suc l)
    tables_next s l h e r =
        let g = (fine_exactly w m t k s l (entry w m t k l)).0 r in
        let says = own s l (address_of (entry w m t k l)) g.own in
        rw (table s l (address_of (entry w m t k l)))
        (record {
          passed = passed_next k a s.last l h.passed g.sound g.above;
          tables = omega (arith, below_present (entry w m t k) l e, h.tables);
          most = omega (arith, says.0);
          held = upto (λ (i : ℕ). Present w m t k i → Protected (regions m) (named w m t k i)) l h.held (λ p. says.1.0);
          first = h.first;
          count = h.count;
          all = h.all;
        })

    tables_end : (s : State) → s.last ≡ a → s.tables ≡ n → n ≤ most_tables → s.first ≡ 0 → s.count ≡ 0 → s.common ≡ regions m
        → AllHold (rules_from (window w m t) m s (found_from k (entry w m t k) 0 (level_size k)))
        → Tables (after_all s (found_from k (entry w m t k) 0 (level_size k))) (level_size k)
    tables_end s q e b f c g h =
        let o : 0 + level_size k ≡ level_size k = omega arith in
        let none : Tables s 0 = record {
          passed = rw q (passed_none k a);
          tables = omega (arith, below_none (entry w m t k));
          most = omega arith;
          held = λ i x. absurd (omega arith);
          first = f;
          count = c;
          all = g;
        } in
        rw o at (kept k (window w m t) m (entry w m t k) Tables tables_absent tables_next (level_size k) s 0 none h)

  -- THE LEVEL OF PAGES

  module _ (a : ℕ) where
    record Pages (s : State) (l : ℕ) : Type 0 where
      pub passed : Passed Page a s.last l
      pub present : (i : ℕ) → s.first ≤ i → i < s.first + s.count → Present w m t Page i
      pub only : (i : ℕ) → i < l → Present w m t Page i → (s.first ≤ i) × (i < s.first + s.count)
      pub no_page : s.count ≡ 0 → s.first ≡ 0
      pub left : s.common ≡ common w m t l
      pub protected : Some (Holds w m t l) (regions m)

    pages_absent : (s : State) (l : ℕ) → Pages s l → present_of (entry w m t Page l) ≡ false → Pages s (suc l)
    pages_absent s l h e =
        record {
          passed = passed_absent Page a s.last l h.passed e;
          present = h.present;
          only = upto (λ (i : ℕ). Present w m t Page i → (s.first ≤ i) × (i < s.first + s.count)) l h.only (λ p. never p);
          no_page = h.no_page;
          left = common_absent w m t s.common l h.left e;
          protected = some_map (Holds w m t l) (Holds w m t (suc l))
              (λ r x. upto (λ (i : ℕ). Present w m t Page i → Within (named w m t Page i) r) l x (λ p. never p))
              (regions m)
              h.protected;
        }
      where
        never : {A : Type 0} → Present w m t Page l → A
        never p = absurd (true≢false (sym p ∙ e))

    pages_next : (s : State) (l : ℕ) → Pages s l → Present w m t Page l → AllHold (entry_rules Page (window w m t) m s l (entry w m t Page l))
        → Pages (after_page s l (address_of (entry w m t Page l))) (suc l)
    pages_next s l h e r = by (eqb s.count 0) refl
      where
        g : Fine w m t Page s l (entry w m t Page l)
        g = (fine_exactly w m t Page s l (entry w m t Page l)).0 r

        -- with a first page b and n pages before this one
        with_first : (b n : ℕ) → l ≡ b + n → ((i : ℕ) → b ≤ i → i < l → Present w m t Page i)
            → ((i : ℕ) → i < l → Present w m t Page i → (b ≤ i) × (i < b + n))
            → Pages (record { last = address_of (entry w m t Page l); tables = s.tables; first = b; count = n + 1; common = holding s.common (address_of (entry w m t Page l)) }) (suc l)
        with_first b n q p o =
            record {
              passed = passed_next Page a s.last l h.passed g.sound g.above;
              present = λ i x y. upto (λ (i : ℕ). b ≤ i → Present w m t Page i) l (λ i y x. p i x y) (λ x. e) i (omega arith) x;
              only = upto (λ (i : ℕ). Present w m t Page i → (b ≤ i) × (i < b + (n + 1))) l
                  (λ i x u. let v = o i x u in omega arith)
                  (λ u. omega arith);
              no_page = λ z. absurd (omega arith);
              left = common_next w m t s.common l h.left e;
              protected = held_next w m t l (rw h.left at g.own.1.0);
            }

        by : (none : Bool) → eqb s.count 0 ≡ none
            → Pages (record { last = address_of (entry w m t Page l); tables = s.tables; first = cond none l s.first; count = s.count + 1; common = holding s.common (address_of (entry w m t Page l)) }) (suc l)
        by true z =
            let c : s.count ≡ 0 = eqb-true _ _ z in
            with_first l s.count (omega arith) (λ i x y. absurd (omega arith)) (λ i x u. let v = h.only i x u in absurd (omega arith))
        by false z =
            let q : l ≡ s.first + s.count = ⊎_elim (λ c. absurd (eqb-false _ _ z c)) (λ q. q) g.own.0 in
            with_first s.first s.count q (λ i x y. h.present i x (omega arith)) h.only

    pages_end : (s : State) → s.last ≡ a → s.first ≡ 0 → s.count ≡ 0 → s.common ≡ regions m
        → AllHold (rules_from (window w m t) m s (found_from Page (entry w m t Page) 0 (level_size Page)))
        → Pages (after_all s (found_from Page (entry w m t Page) 0 (level_size Page))) (level_size Page)
    pages_end s q f c g h =
        let o : 0 + level_size Page ≡ level_size Page = omega arith in
        let none : Pages s 0 = record {
          passed = rw q (passed_none Page a);
          present = λ i x y. absurd (omega arith);
          only = λ i x. absurd (omega arith);
          no_page = λ z. f;
          left = g;
          protected = inl (λ i x. absurd (omega arith));
        } in
        rw o at (kept Page (window w m t) m (entry w m t Page) Pages pages_absent pages_next (level_size Page) s 0 none h)

  -- ALL LEVELS

  module _ (h : AllHold (walk_rules w m t)) where
    hold : Stages w m t
    hold = (stages w m t).0 h

    first : Tables Pointer (λ s l a. refl) (λ s l a x. x) t 1 (after_pointers w m t) (level_size Pointer)
    first = tables_end Pointer (λ s l a. refl) (λ s l a x. x) t 1 (start_of m t) refl refl (omega arith) refl refl refl hold.pointers

    second : Tables Directory (λ s l a. refl) (λ s l a x. x) (after_pointers w m t).last (after_pointers w m t).tables (after_directories w m t) (level_size Directory)
    second =
        tables_end Directory (λ s l a. refl) (λ s l a x. x) (after_pointers w m t).last (after_pointers w m t).tables (after_pointers w m t) refl refl
        first.most
        first.first
        first.count
        first.all
        hold.directories

    third : Pages (after_directories w m t).last (end_state w m t) (level_size Page)
    third =
        rw (end_state_lem w m t)
        (pages_end (after_directories w m t).last (after_directories w m t) refl second.first second.count second.all hold.pages)

    in_level : (k : Kind) (l : ℕ) → Present w m t k l → l < level_size k
    in_level k l p = in_level_lem w m.window t k l p

    sounds : (k : Kind) (l : ℕ) → Present w m t k l → Sound w m t k (entry w m t k l)
    sounds Pointer l p = first.passed.sound l (in_level Pointer l p) p
    sounds Directory l p = second.passed.sound l (in_level Directory l p) p
    sounds Page l p = third.passed.sound l (in_level Page l p) p

    above : (k : Kind) (l : ℕ) → Present w m t k l → t < address_of (entry w m t k l)
    above Pointer l p = first.passed.above l (in_level Pointer l p) p
    above Directory l p = omega (arith, first.passed.least, second.passed.above l (in_level Directory l p) p)
    above Page l p = omega (arith, first.passed.least, second.passed.least, third.passed.above l (in_level Page l p) p)

    rising : (j k : Kind) (i l : ℕ) → Present w m t j i → Present w m t k l → position j i < position k l
        → address_of (entry w m t j i) < address_of (entry w m t k l)
    rising Pointer Pointer i l p q o = first.passed.rising i l (omega arith) (in_level Pointer l q) p q
    rising Pointer Directory i l p q o =
        omega (arith, first.passed.below i (in_level Pointer i p) p, second.passed.above l (in_level Directory l q) q)
    rising Pointer Page i l p q o =
        omega (arith, first.passed.below i (in_level Pointer i p) p, second.passed.least, third.passed.above l (in_level Page l q) q)
    rising Directory Pointer i l p q o = absurd (omega (arith, in_level Pointer l q))
    rising Directory Directory i l p q o = second.passed.rising i l (omega arith) (in_level Directory l q) p q
    rising Directory Page i l p q o =
        omega (arith, second.passed.below i (in_level Directory i p) p, third.passed.above l (in_level Page l q) q)
    rising Page Pointer i l p q o = absurd (omega (arith, in_level Pointer l q))
    rising Page Directory i l p q o = absurd (omega (arith, in_level Directory l q))
    rising Page Page i l p q o = third.passed.rising i l (omega arith) (in_level Page l q) p q

    pub walks : Walks w m t (end_state w m t).first (end_state w m t).count
    walks =
        let base = (base_exactly w m t).0 hold.base in
        record {
          aligned = base.0;
          base_placed = base.1.0;
          reserved = λ k l p. (sounds k l p).reserved;
          placed = λ k l p. (sounds k l p).placed;
          above = above;
          rising = rising;
          tables = omega (arith, first.tables, second.tables, second.most);
          pages = third.present;
          only = λ l p. third.only l (in_level Page l p) p;
          no_page = third.no_page;
          protected = some_map (Holds w m t (level_size Page)) (HoldsPages w m t)
              (λ r x l p. x l (in_level Page l p) p)
              (regions m)
              third.protected;
          tables_protected = record {
            base = base.1.1;
            directories = λ l p. first.held l (in_level Pointer l p) p;
            page_tables = λ l p. second.held l (in_level Directory l p) p;
          };
        }
