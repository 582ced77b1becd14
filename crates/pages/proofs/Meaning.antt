-- The walk maps pages exactly where all rules hold with them, refuses with the number of the first rule that fails, and what it maps lies where it may.
use Prim.Native.Nat.{ℕ, ◌+◌, ◌%◌, ◌<◌}
use mathlib.Core.Path.{◌≡◌, refl, ap}
use mathlib.Core.Logic.{◌↔◌, ◌≢◌}
use mathlib.Core.Bool.{Bool, true, false}
use native.Mathlib.Omega.{arith}
use borrow.Author.Tests.{ltb-true, ltb-false}
use lib.Dec.{ltb}
use Rattle.range.specs.declared.Range.{Range}
use Rattle.range.specs.Range.{inside_of, page_size}
use Rattle.rules.specs.Rules.{first_failing}
use Rattle.rules.proofs.Rules.{all_exactly}
use Rattle.rules.proofs.Tests.{some_map}
use Rattle.rules.proofs.Filter.{some_filter}
use Rattle.rules.proofs.Refusals.{value_by, refused_by, number_by, refused_means}
use Rattle.std.specs.Prelude.{Err}
use Rattle.pages.specs.declared.Kind.{Kind}
use Rattle.pages.specs.declared.Kind.TheVariants.{Pointer, Directory, Page}
use Rattle.pages.specs.declared.Mapped.{Mapped}
use Rattle.pages.specs.Entry.{address_of}
use Rattle.pages.specs.Memory.{page_of, regions, holding}
use Rattle.pages.specs.Rules.{State, walk_rules, end_state, mapped, answer_of, walk_of}
use Rattle.pages.specs.Meaning.{Within, Apart, position, entry, Present, named, HoldsPages, Walks, walk_meanings, HoldingMeans, NumberIsFirst, MappedExactly, RefusedExactly, FoundByWalk}
use Rattle.pages.proofs.Found.{in_level_lem}
use Rattle.pages.proofs.Conditions.{page_within, walk_agree}
use Rattle.pages.proofs.Answer.{walk_numbered}
use Rattle.pages.proofs.Holding.{walks}
use Rattle.pages.proofs.Permits.{permits, walks_unique}

-- WHAT IS LEFT

pub holding_means : HoldingMeans
unfolding holding
holding_means rs a P =
    let left = some_filter P (inside_of (page_of a)) rs in
    let as-test = some_map (λ (r : Range). (inside_of (page_of a) r ≡ true) × P r) (λ (r : Range). Within (page_of a) r × P r) (λ r h. ((page_within a r).0 h.0, h.1)) rs in
    let by-test = some_map (λ (r : Range). Within (page_of a) r × P r) (λ (r : Range). (inside_of (page_of a) r ≡ true) × P r) (λ r h. ((page_within a r).1 h.0, h.1)) rs in
    (λ h. as-test (left.0 h), λ h. left.1 (by-test h))

-- AN ANSWER AND ITS NUMBER

abbrev pages_of : State → Mapped
pages_of s = record { first = s.first; count = s.count }

pub mapped_answer : (k : ℕ) (s : State) (f n : ℕ) → (answer_of k s ≡ mapped f n) ↔ ((k ≡ 0) × ((s.first ≡ f) × (s.count ≡ n)))
unfolding answer_of
mapped_answer k s f n =
    let value = value_by (pages_of s) (record { first = f; count = n }) k in (
      λ e. let h = value.0 e in (h.0, (ap (λ (p : Mapped). p.first) h.1, ap (λ (p : Mapped). p.count) h.1)),
      λ h. value.1 (h.0, rw (h.1.0, h.1.1)),
    )

pub refused_answer : (k : ℕ) (s : State) (n : ℕ) → (answer_of k s ≡ Err n) ↔ ((0 < n) × (k ≡ n))
unfolding answer_of
refused_answer k s n = refused_by (pages_of s) k n

pub number_is_first : NumberIsFirst
unfolding walk_of answer_of
number_is_first w m t = number_by (pages_of (end_state w m t)) (first_failing (walk_rules w m t))

pub mapped_exactly : MappedExactly
unfolding walk_of
mapped_exactly w m t f n =
    let answer = mapped_answer (first_failing (walk_rules w m t)) (end_state w m t) f n in
    let passed = all_exactly (walk_rules w m t) (walk_numbered w m t) in (
      λ e. let a = answer.0 e in rw (a.1.0, a.1.1) at (walks w m t (passed.0 a.0)),
      λ h.
          let all = permits w m t f n h in
          answer.1 (passed.1 all, walks_unique w m t _ _ f n (walks w m t all) h),
    )

pub refused_exactly : RefusedExactly
unfolding walk_of answer_of
refused_exactly w m t n =
    refused_means (pages_of (end_state w m t)) (walk_rules w m t) (walk_meanings w m t) (walk_agree w m t) n

-- WHAT WAS FOUND

-- every address is a multiple of the page size
on_page : (e : ℕ) → address_of e % page_size ≡ 0
unfolding address_of
on_page e = omega arith

-- pages at two such multiples have no byte in common
apart : (a b : ℕ) → a % page_size ≡ 0 → b % page_size ≡ 0 → a ≢ b → Apart (page_of a) (page_of b)
apart a b p q different x y z = different (omega arith)

pub found_by_walk : FoundByWalk
found_by_walk w m t f n e = record {
  present = there;
  only = h.only;
  rising = rising;
  inside = λ k x. (h.placed Page (f + k) (there k x)).inside;
  apart = pair;
  base = λ k x. apart _ t (on_page _) h.aligned (λ z. omega (arith, h.above Page (f + k) (there k x)));
  directories = λ k i x p. table Pointer k i x p (omega (arith, in_level_lem w m.window t Pointer i p));
  page_tables = λ k i x p. table Directory k i x p (omega (arith, in_level_lem w m.window t Directory i p));
  clear = λ k x. (h.placed Page (f + k) (there k x)).clear;
  protected = some_map (HoldsPages w m t) (λ (r : Range). (k : ℕ) → k < n → Within (named w m t Page (f + k)) r)
      (λ r x k y. x (f + k) (there k y))
      (regions m)
      h.protected;
}
  where
    h : Walks w m t f n
    h = (mapped_exactly w m t f n).0 e

    there : (k : ℕ) → k < n → Present w m t Page (f + k)
    there k x = h.pages (f + k) (omega arith) (omega arith)

    rising : (j k : ℕ) → j < k → k < n → address_of (entry w m t Page (f + j)) < address_of (entry w m t Page (f + k))
    rising j k x y = h.rising Page Page (f + j) (f + k) (there j (omega arith)) (there k y) (omega arith)

    differ : (j k : ℕ) → j < n → k < n → j ≢ k → address_of (entry w m t Page (f + j)) ≢ address_of (entry w m t Page (f + k))
    differ j k x y d z = by (ltb j k) refl
      where
        by : (b : Bool) → ltb j k ≡ b → ⊥
        by true o = omega (arith, rising j k (ltb-true j k o) y)
        by false o = let l = ltb-false j k o in let g : k < j = omega (arith, d) in omega (arith, rising k j g x)

    pair : (j k : ℕ) → j < n → k < n → j ≢ k → Apart (named w m t Page (f + j)) (named w m t Page (f + k))
    pair j k x y d = apart _ _ (on_page _) (on_page _) (differ j k x y d)

    table : (j : Kind) (k i : ℕ) → k < n → Present w m t j i → position j i < position Page (f + k) → Apart (named w m t Page (f + k)) (named w m t j i)
    table j k i x p o = apart _ _ (on_page _) (on_page _) (λ z. omega (arith, h.rising j Page i (f + k) p (there k x) o))
