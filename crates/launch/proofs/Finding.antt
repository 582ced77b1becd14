-- What the launch finds, rules 1 to 22: what one group of rules makes of the answer by all of them.
use Prim.Native.Nat.{ℕ, ◌≤◌, ◌<◌}
use mathlib.Core.Path.{◌≡◌, ap, sym, ◌∙◌}
use mathlib.Core.Bool.{Bool, true, false}
use mathlib.Core.List.{List, [], ◌∷◌, ◌++◌}
use borrow.Author.Tests.{eq-eqb, ne_eqb, le-leb, lt-leb}
use lib.Dec.{lit<, leb}
use lib.ListN.{length}
use Rattle.rules.specs.Rules.{Rule, rule, all, first_failing, answer_by}
use Rattle.rules.proofs.Rules.{numbers_not_0}
use Rattle.rules.proofs.Answers.{permits, rule_refuses, rule_passes, group_refuses, group_passes}
use Rattle.rules.proofs.Refusals as answers
use Rattle.std.specs.Prelude.{Result, Ok, Err}
use Rattle.heap.specs.declared.OsSinitData.{OsSinitData}
use Rattle.heap.specs.Heap.{heap_rules, heap_of}
use Rattle.heap.proofs.Meaning as heap-laws
use Rattle.sinit.specs.declared.ModuleData.{ModuleData}
use Rattle.sinit.specs.Rules as sinit
use Rattle.sinit.proofs.Meaning as sinit-laws
use Rattle.pages.specs.declared.MemoryRanges.{MemoryRanges}
use Rattle.pages.specs.Memory.{Memory, memory_of}
use Rattle.pages.specs.Rules as pages
use Rattle.pages.proofs.Meaning as walks-laws
use Rattle.mle.specs.declared.Image.{Image}
use Rattle.mle.specs.Header.{pages_of, size_tests, header_tests}
use Rattle.launch.specs.declared.Platform.{Platform}
use Rattle.launch.specs.declared.Found.{Found}
use Rattle.launch.specs.Rules.{Input, input_of, reserved_numbers, memory_from, chipset_of, platform_tests, image_rules, image_found, page_rules, found_of, os, module_data, memory, found}
use Rattle.launch.specs.Inner.{image_stage, page_stage, find_stage}
use Rattle.launch.proofs.Order.{heap_group, module_group, walk_group}

-- THE ANSWER AND ITS NUMBER

module _ (rs : List Rule) (f : Found) where
  pub refused_by : (n : ℕ) → answer_by Err (Ok f) rs ≡ Err n → (0 < n) × (first_failing rs ≡ n)
  refused_by n e = (answers.refused_by f (first_failing rs) n).0 e

  pub complete_by : (g : Found) → answer_by Err (Ok f) rs ≡ Ok g → (first_failing rs ≡ 0) × (g ≡ f)
  complete_by g e = let h = (answers.value_by f g (first_failing rs)).0 e in (h.0, sym h.1)

-- RULES 21 AND 22

module _ (w : List ℕ) (o : OsSinitData) (m : ModuleData) (image : Image) where
  abbrev complete : Result Found ℕ
  complete = Ok (found_of image o m)

  abbrev header : Bool
  header = all (header_tests w image o.mle_header_base o.mle_size m.min_mle_header_ver)

  pub count_refuses : (image.count ≡ pages_of o.mle_size → ⊥) → Err 21 ≡ image_stage w o m image
  unfolding image_stage
  count_refuses h = rule_refuses Err complete 21 _ (rule 22 header ∷ []) (lit< tt) (ne_eqb image.count (pages_of o.mle_size) h)

  module _ (counted : image.count ≡ pages_of o.mle_size) where
    passes : answer_by Err complete (rule 22 header ∷ []) ≡ image_stage w o m image
    unfolding image_stage
    passes = rule_passes Err complete 21 _ (rule 22 header ∷ []) (eq-eqb image.count (pages_of o.mle_size) counted)

    pub header_refuses : header ≡ false → Err 22 ≡ image_stage w o m image
    header_refuses e = rule_refuses Err complete 22 header [] (lit< tt) e ∙ passes

    pub header_passes : header ≡ true → (f : Found) → f ≡ found_of image o m → Ok f ≡ image_stage w o m image
    header_passes e f is = ap Ok is ∙ permits Err complete (rule 22 header ∷ []) (rw e) ∙ passes

-- RULES 12 TO 22

module _ (w : List ℕ) (o : OsSinitData) (m : ModuleData) (mem : Memory) (places : ℕ) where
  abbrev walk : List Rule
  walk = pages.walk_rules w mem o.page_table_base

  abbrev later : List Rule
  later = image_rules w (image_found w mem o) o m

  abbrev value : Result Found ℕ
  value = Ok (found_of (image_found w mem o) o m)

  abbrev room : Bool
  room = leb (pages_of o.mle_size) places

  -- 12 and 13
  pub size_refuses : all (size_tests o.mle_size) ≡ false → Err 12 ≡ page_stage w o m mem places
  unfolding page_stage
  size_refuses e = rule_refuses Err value 12 _ (rule 13 room ∷ (walk ++ later)) (lit< tt) e

  module _ (size : all (size_tests o.mle_size) ≡ true) where
    size_passes : answer_by Err value (rule 13 room ∷ (walk ++ later)) ≡ page_stage w o m mem places
    unfolding page_stage
    size_passes = rule_passes Err value 12 _ (rule 13 room ∷ (walk ++ later)) size

    pub room_refuses : places < pages_of o.mle_size → Err 13 ≡ page_stage w o m mem places
    room_refuses h = rule_refuses Err value 13 room (walk ++ later) (lit< tt) (lt-leb (pages_of o.mle_size) places h) ∙ size_passes

    -- 14 to 20
    module _ (enough : pages_of o.mle_size ≤ places) where
      room_passes : answer_by Err value (walk ++ later) ≡ page_stage w o m mem places
      room_passes = rule_passes Err value 13 room (walk ++ later) (le-leb (pages_of o.mle_size) places enough) ∙ size_passes

      pub walk_refuses : (n : ℕ) → pages.walk_of w mem o.page_table_base ≡ Err n → Err n ≡ page_stage w o m mem places
      unfolding pages.walk_of
      walk_refuses n e = let r = (walks-laws.refused_answer _ _ n).0 e in group_refuses Err value walk later n r.0 r.1 ∙ room_passes

      pub walk_passes : (f n : ℕ) → pages.walk_of w mem o.page_table_base ≡ Ok (record { first = f; count = n })
          → image_stage w o m (record { window = mem.window; tables = o.page_table_base; first = f; count = n }) ≡ page_stage w o m mem places
      unfolding pages.walk_of image_stage
      walk_passes f n e =
          let r = (walks-laws.mapped_answer _ _ f n).0 e in
          let numbered = numbers_not_0 14 20 walk (lit< tt) (walk_group w mem o.page_table_base).numbers in
          rw (← r.1.0, ← r.1.1) (group_passes Err value walk later numbered r.0) ∙ room_passes

-- RULES 1 TO 22

module _ (w h s r stm : List ℕ) (p : Platform) (places : ℕ) where
  abbrev i : Input
  i = input_of w h s r stm p places

  abbrev whole : Result Found ℕ
  whole = Ok (found i)

  abbrev module_rules_lem : List Rule
  module_rules_lem = sinit.rules s p.sinit_base p.acram_capacity (chipset_of p) (os i).version

  abbrev after_module : List Rule
  after_module = page_rules w (os i) (module_data i) (memory i) places

  -- 1
  pub platform_refuses : all (platform_tests w h stm p) ≡ false → Err 1 ≡ find_stage i
  unfolding find_stage
  platform_refuses e = rule_refuses Err whole 1 _ (heap_rules h ++ (module_rules_lem ++ after_module)) (lit< tt) e

  module _ (platform : all (platform_tests w h stm p) ≡ true) where
    platform_passes : answer_by Err whole (heap_rules h ++ (module_rules_lem ++ after_module)) ≡ find_stage i
    unfolding find_stage
    platform_passes = rule_passes Err whole 1 _ (heap_rules h ++ (module_rules_lem ++ after_module)) platform

    -- 2 to 5
    pub heap_refuses : (n : ℕ) → heap_of h ≡ Err n → Err n ≡ find_stage i
    heap_refuses n e =
        let a = (heap-laws.refusal_exactly h n).0 e in
        group_refuses Err whole (heap_rules h) (module_rules_lem ++ after_module) n a.0 a.1 ∙ platform_passes

    module _ (o : OsSinitData) (is-os : heap_of h ≡ Ok o) where
      o_is : o ≡ os i
      o_is = ((heap-laws.fields_exactly h o).0 is-os).1

      heap_passes : answer_by Err whole (module_rules_lem ++ after_module) ≡ find_stage i
      heap_passes =
          let numbered = numbers_not_0 2 5 (heap_rules h) (lit< tt) (heap_group h).numbers in
          group_passes Err whole (heap_rules h) (module_rules_lem ++ after_module) numbered ((heap-laws.fields_exactly h o).0 is-os).0 ∙ platform_passes

      -- 6 to 11
      pub module_refuses : (n : ℕ) → sinit.module_of s p.sinit_base p.acram_capacity (chipset_of p) o.version ≡ Err n
          → Err n ≡ find_stage i
      module_refuses n e =
          let a = (sinit-laws.refusal_exactly s _ _ (chipset_of p) (os i).version n).0 (rw o_is at e) in
          group_refuses Err whole module_rules_lem after_module n a.0 a.1 ∙ heap_passes

      pub module_passes : (m : ModuleData) → sinit.module_of s p.sinit_base p.acram_capacity (chipset_of p) o.version ≡ Ok m
          → (ranges : MemoryRanges) → ranges ≡ memory_from (length h) (length s) p o
          → page_stage w o m (memory_of ranges (reserved_numbers p.reserved)) places ≡ find_stage i
      unfolding page_stage
      module_passes m e ranges is-memory =
          let a = (sinit-laws.values_exactly s _ _ (chipset_of p) (os i).version m).0 (rw o_is at e) in
          let numbered = numbers_not_0 6 11 module_rules_lem (lit< tt) (module_group s p.sinit_base p.acram_capacity (chipset_of p) (os i).version).numbers in
          rw (is-memory, o_is, a.1) (group_passes Err whole module_rules_lem after_module numbered a.0) ∙ heap_passes
