-- The numbers of the rules: within which bounds each group has its own, that lower ones come first except those of the walk, and that none is over 29.
use Prim.Native.Nat.{ℕ, ◌≤◌}
use mathlib.Core.Path.{◌≡◌, refl}
use mathlib.Core.Logic.{inl, inr}
use mathlib.Core.Bool.{Bool, true, false, cond, ◌&&◌, and-eq-true_iff}
use mathlib.Core.List.{List, [], ◌∷◌, ◌++◌}
use native.Mathlib.Omega.{arith}
use borrow.Author.Tests.{leb-true}
use lib.Dec.{lit≤, leb, eqb}
use Rattle.range.specs.declared.Range.{Range}
use Rattle.rules.specs.Rules.{Rule, rule, all}
use Rattle.rules.proofs.Rules.{NumbersIn, every_append, every_map}
use Rattle.heap.specs.Heap.{heap_rules}
use Rattle.sinit.specs.declared.Chipset.{Chipset}
use Rattle.sinit.specs.Rules as sinit
use Rattle.pages.specs.declared.Kind.{Kind}
use Rattle.pages.specs.declared.Kind.TheVariants.{Pointer, Directory, Page}
use Rattle.pages.specs.Memory.{Memory, window_of}
use Rattle.pages.specs.Tables as tables
use Rattle.pages.specs.Rules.{State, start_of, after_entry, base_rules, entry_rules, rules_from, walk_rules}
use Rattle.policy_record.specs.Record.{policy_type, LIST, record_rules}
use Rattle.decision.specs.Answers.{file_rules}
use Rattle.launch.specs.declared.Found.{Found}
use Rattle.launch.specs.Rules.{Input, chipset_of, platform_tests, size_rules, image_rules, page_rules, os, module_data, memory, image, found, find_rules, list_rules, decide_rules, rules}
use Rattle.launch.specs.Demand1.{MayPrecede, InOrder}

-- rules in order, with their numbers within bounds
pub record Group (least most : ℕ) (rs : List Rule) : Type 0 where
  pub numbers : NumbersIn least most rs
  pub order : InOrder rs

wider : (a b c d : ℕ) (rs : List Rule) → a ≤ b → c ≤ d → NumbersIn b c rs → NumbersIn a d rs
wider a b c d rs l m h = every_map _ _ (λ r x. (omega (arith, x.0), omega (arith, x.1))) rs h

-- GROUPS WHOSE NUMBERS ASCEND, by a test that is computed

ascend : ℕ → ℕ → List Rule → Bool
ascend least most [] = true
ascend least most (r ∷ rs) = leb least r.number && (leb r.number most && ascend r.number most rs)

group : (least most : ℕ) (rs : List Rule) → ascend least most rs ≡ true → Group least most rs
unfolding ascend
group least most [] e = record { numbers = tt; order = tt }
group least most (r ∷ rs) e =
    let p = (and-eq-true_iff _ _).0 e in
    let q = (and-eq-true_iff _ _).0 p.1 in
    let l = leb-true least r.number p.0 in
    let rest = group r.number most rs q.1 in
    record {
      numbers = ((l, leb-true r.number most q.0), wider least r.number most most rs l (omega arith) rest.numbers);
      order = (every_map _ (MayPrecede r) (λ s x. inl x.0) rs rest.numbers, rest.order);
    }

-- a group before another that has no lower number
module _ (a b c d : ℕ) (meet : b ≤ c) where
  ordered : (rs later : List Rule) → NumbersIn a b rs → InOrder rs → NumbersIn c d later → InOrder later → InOrder (rs ++ later)
  ordered [] later n o m p = p
  ordered (r ∷ rs) later n o m p = (
    every_append (MayPrecede r) rs later o.0 (every_map _ (MayPrecede r) (λ s x. inl (omega (arith, n.0.1, x.0))) later m),
    ordered rs later n.1 o.1 m p,
  )

  joined : (rs later : List Rule) → a ≤ c → b ≤ d → Group a b rs → Group c d later → Group a d (rs ++ later)
  joined rs later l h g k =
      record {
        numbers = every_append _ rs later (wider a a b d rs (omega arith) h g.numbers) (wider a c d d later l (omega arith) k.numbers);
        order = ordered rs later g.numbers g.order k.numbers k.order;
      }

-- THE WALK: its rules are in order however they stand

walk_order : (rs : List Rule) → NumbersIn 14 20 rs → InOrder rs
walk_order [] n = tt
walk_order (r ∷ rs) n = (every_map _ (MayPrecede r) (λ s x. inr (n.0, x)) rs n.1, walk_order rs n.1)

module _ (window : Range) (m : Memory) where
  entry_group : (k : Kind) (s : State) (l e : ℕ) → Group 14 20 (entry_rules k window m s l e)
  unfolding ascend
  entry_group Pointer s l e = group 14 20 (entry_rules Pointer window m s l e) refl
  entry_group Directory s l e = group 14 20 (entry_rules Directory window m s l e) refl
  entry_group Page s l e = group 14 20 (entry_rules Page window m s l e) refl

  entries_numbers : (s : State) (es : List tables.Found) → NumbersIn 14 20 (rules_from window m s es)
  unfolding rules_from
  entries_numbers s [] = tt
  entries_numbers s (e ∷ es) =
      every_append _ (entry_rules e.kind window m s e.number e.entry) (rules_from window m (after_entry s e) es)
      (entry_group e.kind s e.number e.entry).numbers
      (entries_numbers (after_entry s e) es)

pub walk_group : (w : List ℕ) (m : Memory) (t : ℕ) → Group 14 20 (walk_rules w m t)
unfolding walk_rules ascend
walk_group w m t =
    let window = window_of w m.window in
    let base = base_rules window m t in
    let entries = rules_from window m (start_of m t) (tables.found w m.window t) in
    let numbers = every_append _ base entries (group 14 20 base refl).numbers (entries_numbers window m (start_of m t) (tables.found w m.window t)) in
    record { numbers = numbers; order = walk_order (base ++ entries) numbers }

-- THE OTHER GROUPS

pub heap_group : (h : List ℕ) → Group 2 5 (heap_rules h)
unfolding ascend
heap_group h = group 2 5 (heap_rules h) refl

pub module_group : (s : List ℕ) (base capacity : ℕ) (c : Chipset) (version : ℕ) → Group 6 11 (sinit.rules s base capacity c version)
unfolding ascend
module_group s base capacity c version = group 6 11 (sinit.rules s base capacity c version) refl

pub record_group : (r : List ℕ) (flags acm_version : ℕ) → Group 23 25 (record_rules r flags acm_version)
unfolding ascend
record_group r flags acm_version = group 23 25 (record_rules r flags acm_version) refl

pub file_group : (file r : List ℕ) → Group 27 28 (file_rules file r)
unfolding ascend
file_group file r = group 27 28 (file_rules file r) refl

lists_group : (w r stm : List ℕ) (f : Found) (t : Bool) → Group 26 29 (cond t (list_rules w r stm f) [])
unfolding ascend
lists_group w r stm f true = group 26 29 (list_rules w r stm f) refl
lists_group w r stm f false = group 26 29 [] refl

-- ALL RULES

module _ (i : Input) where
  pages_group : Group 12 22 (page_rules i.window (os i) (module_data i) (memory i) i.places)
  unfolding ascend
  pages_group =
      let last = image_rules i.window (image i) (os i) (module_data i) in
      let walk = walk_rules i.window (memory i) (os i).page_table_base in
      let sizes = size_rules (os i).mle_size i.places in
      joined 12 13 14 22 (lit≤ tt) sizes (walk ++ last) (lit≤ tt) (lit≤ tt) (group 12 13 sizes refl)
      (joined 14 20 21 22 (lit≤ tt) walk last (lit≤ tt) (lit≤ tt) (walk_group i.window (memory i) (os i).page_table_base) (group 21 22 last refl))

  pub find_group : Group 1 22 (find_rules i)
  unfolding ascend
  find_group =
      let pages = page_rules i.window (os i) (module_data i) (memory i) i.places in
      let modules = sinit.rules i.sinit i.platform.sinit_base i.platform.acram_capacity (chipset_of i.platform) (os i).version in
      let first = rule 1 (all (platform_tests i.window i.heap i.stm i.platform)) ∷ [] in
      joined 1 1 2 22 (lit≤ tt) first (heap_rules i.heap ++ (modules ++ pages)) (lit≤ tt) (lit≤ tt) (group 1 1 first refl)
      (joined 2 5 6 22 (lit≤ tt) (heap_rules i.heap) (modules ++ pages) (lit≤ tt) (lit≤ tt) (heap_group i.heap)
      (joined 6 11 12 22 (lit≤ tt) modules pages (lit≤ tt) (lit≤ tt) (module_group i.sinit _ _ (chipset_of i.platform) (os i).version) pages_group))

  pub all_group : Group 1 29 (rules i)
  unfolding rules
  all_group =
      let r = i.policy_record in
      let lists = cond (eqb (policy_type r) LIST) (list_rules i.window r i.stm (found i)) [] in
      let records = record_rules r (found i).flags (found i).acm_version in
      joined 1 22 23 29 (lit≤ tt) (find_rules i) (decide_rules i.window r i.stm (found i)) (lit≤ tt) (lit≤ tt) find_group
      (joined 23 25 26 29 (lit≤ tt) records lists (lit≤ tt) (lit≤ tt) (record_group r _ _) (lists_group i.window r i.stm (found i) (eqb (policy_type r) LIST)))
