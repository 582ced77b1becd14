-- The rules of the check, in the order they are tried: one list, of two stages. Rules 1 to 22 are those of what the launch finds, rules 23 to 29 those of
-- what the policy decides. Each group of rules is a crate's own; here they are joined.
use Rattle.std.specs.Prelude.{ℕ, ◌*◌, ◌%◌, ◌^◌, Bool, cond, List, [], ◌∷◌, ◌++◌, leb, eqb, length, take}
use Rattle.range.specs.declared.Range.{Range}
use Rattle.range.specs.Range.{ends_by, highest_end, page_size}
use Rattle.range.specs.Pairs.{ranges_of}
use Rattle.rules.specs.Rules.{Rule, rule, all}
use Rattle.rules.specs.Tests.{every}
use Rattle.heap.specs.declared.OsSinitData.{OsSinitData}
use Rattle.heap.specs.Heap.{heap_rules, heap_fields, low_pmr, high_pmr}
use Rattle.sinit.specs.declared.Chipset.{Chipset}
use Rattle.sinit.specs.declared.ModuleData.{ModuleData}
use Rattle.sinit.specs.Rules as sinit
use Rattle.pages.specs.declared.MemoryRanges.{MemoryRanges}
use Rattle.pages.specs.Memory.{Memory, memory_of, window_of}
use Rattle.pages.specs.Rules.{walk_rules, end_state}
use Rattle.mle.specs.declared.Image.{Image}
use Rattle.mle.specs.Image.{image_digest}
use Rattle.mle.specs.Header.{pages_of, size_tests, header_tests}
use Rattle.policy_record.specs.Record.{policy_type, LIST, record_rules}
use Rattle.decision.specs.Lists.{Criteria, file_placed, file_of, some_permits}
use Rattle.decision.specs.Answers.{criteria_by, file_rules}
use Rattle.launch.specs.declared.Platform.{Platform}
use Rattle.launch.specs.declared.ReservedRanges.{ReservedRanges}
use Rattle.launch.specs.declared.Found.{Found}

-- what is lent for reading, the numbers of the platform, and how many places the page list has
pub record Input : Type 0 where
  pub window : List ℕ
  pub heap : List ℕ
  pub sinit : List ℕ
  pub policy_record : List ℕ
  pub stm : List ℕ
  pub platform : Platform
  pub places : ℕ

abbrev pub input_of : List ℕ → List ℕ → List ℕ → List ℕ → List ℕ → Platform → ℕ → Input
input_of w h s r stm platform n =
    record { window = w; heap = h; sinit = s; policy_record = r; stm = stm; platform = platform; places = n }

-- WHAT THE LAUNCH FINDS

abbrev pub dpr_range : Platform → Range
dpr_range p = record { base = p.dpr_base; size = p.dpr_size }

-- "up to 16 reserved ranges"
abbrev pub most_reserved : ℕ
most_reserved = 16

-- base and size in turn, of those within the count: "ranges past the count are ignored"
abbrev pub reserved_numbers : ReservedRanges → List ℕ
reserved_numbers r = take (2 * r.count) r.numbers

-- what the walk is told of the memory, by the lengths of heap and module: the PMRs are those of OsSinitData
abbrev pub memory_from : ℕ → ℕ → Platform → OsSinitData → MemoryRanges
memory_from heap sinit p o =
    record {
      window = p.window_base;
      heap = record { base = p.heap_base; size = heap };
      sinit = record { base = p.sinit_base; size = sinit };
      dpr = dpr_range p;
      low = low_pmr o;
      high = high_pmr o;
    }

abbrev pub chipset_of : Platform → Chipset
chipset_of p = record { vendor = p.vendor; device = p.device; revision = p.revision }

-- at most "a window of 128 MiB"
abbrev pub most_window : ℕ
most_window = 128 * 2 ^ 20

abbrev pub most_heap : ℕ
most_heap = 2 ^ 20

abbrev pub most_stm : ℕ
most_stm = 16 * 2 ^ 20

-- "A count over 16, or an end over 2^52 within the count, at size 0 too"
unfoldable pub reserved_tests : ReservedRanges → List Bool
reserved_tests r =
    leb r.count most_reserved
    ∷ every (λ (a : Range). ends_by a highest_end) (ranges_of (reserved_numbers r))
    ∷ []

-- 1. "window base no multiple of 4096; window over" the most; "heap over 1 MiB; base plus size of window, heap or DPR over 2^52"; of the STM image
-- "Over 16 MiB is 1"; and those of the reserved ranges
unfoldable pub platform_tests : List ℕ → List ℕ → List ℕ → Platform → List Bool
platform_tests window heap stm p =
    eqb (p.window_base % page_size) 0
    ∷ leb (length window) most_window
    ∷ leb (length heap) most_heap
    ∷ leb (length stm) most_stm
    ∷ ends_by (window_of window p.window_base) highest_end
    ∷ ends_by (record { base = p.heap_base; size = length heap }) highest_end
    ∷ ends_by (dpr_range p) highest_end
    ∷ all (reserved_tests p.reserved)
    ∷ []

-- 12 and 13. "page list shorter than N"
abbrev pub size_rules : ℕ → ℕ → List Rule
size_rules mleSize places = rule 12 (all (size_tests mleSize)) ∷ rule 13 (leb (pages_of mleSize) places) ∷ []

-- 21 and 22. "page count is not N"
abbrev pub image_rules : List ℕ → Image → OsSinitData → ModuleData → List Rule
image_rules window image o m =
    rule 21 (eqb image.count (pages_of o.mle_size))
    ∷ rule 22 (all (header_tests window image o.mle_header_base o.mle_size m.min_mle_header_ver))
    ∷ []

-- the pages that the walk finds
abbrev pub image_found : List ℕ → Memory → OsSinitData → Image
image_found window memory o =
    record {
      window = memory.window;
      tables = o.page_table_base;
      first = (end_state window memory o.page_table_base).first;
      count = (end_state window memory o.page_table_base).count;
    }

-- 12 to 22
abbrev pub page_rules : List ℕ → OsSinitData → ModuleData → Memory → ℕ → List Rule
page_rules window o m memory places =
    size_rules o.mle_size places
    -- 14 to 20
    ++ (walk_rules window memory o.page_table_base ++ image_rules window (image_found window memory o) o m)

-- what the policy is asked about: the pages, where the policy file stands, and the flags and AcmVersion of the module
abbrev pub found_of : Image → OsSinitData → ModuleData → Found
found_of image o m =
    record {
      image = image;
      window_base = image.window;
      policy_file = record { base = o.policy_file_base; size = o.policy_file_size };
      flags = m.flags;
      acm_version = m.acm_version;
    }

module _ (i : Input) where
  -- the fields of OsSinitData, and the numbers of the module
  abbrev pub os : OsSinitData
  os = heap_fields i.heap

  abbrev pub module_data : ModuleData
  module_data = sinit.values_of i.sinit

  abbrev pub memory : Memory
  memory = memory_of (memory_from (length i.heap) (length i.sinit) i.platform os) (reserved_numbers i.platform.reserved)

  abbrev pub image : Image
  image = image_found i.window memory os

  abbrev pub found : Found
  found = found_of image os module_data

  abbrev pub find_rules : List Rule
  find_rules =
      -- 1
      rule 1 (all (platform_tests i.window i.heap i.stm i.platform))
      -- 2 to 5
      ∷ (heap_rules i.heap
      -- 6 to 11
      ++ (sinit.rules i.sinit i.platform.sinit_base i.platform.acram_capacity (chipset_of i.platform) os.version
      -- 12 to 22
      ++ page_rules i.window os module_data memory i.places))

-- WHAT THE POLICY DECIDES

-- the policy file where it stands in the window
abbrev pub policy_file : List ℕ → Found → List ℕ
policy_file window f = file_of window f.window_base f.policy_file.base f.policy_file.size

abbrev pub criteria : List ℕ → List ℕ → List ℕ → Found → Criteria
criteria window policy_record stm f = criteria_by (image_digest window f.image) f.acm_version stm policy_record

-- 26 to 29
abbrev pub list_rules : List ℕ → List ℕ → List ℕ → Found → List Rule
list_rules window policy_record stm f =
    rule 26 (all (file_placed window f.window_base f.policy_file.base f.policy_file.size))
    -- 27 and 28
    ∷ (file_rules (policy_file window f) policy_record ++ (rule 29 (some_permits (policy_file window f) (criteria window policy_record stm f)) ∷ []))

abbrev pub decide_rules : List ℕ → List ℕ → List ℕ → Found → List Rule
decide_rules window policy_record stm f =
    -- 23 to 25
    record_rules policy_record f.flags f.acm_version
    -- "Rules 26 to 29 are tried under LIST only."
    ++ cond (eqb (policy_type policy_record) LIST) (list_rules window policy_record stm f) []

-- ALL RULES. "Lower numbers come first, except 14 to 20, which follow the walk."
unfoldable pub rules : Input → List Rule
rules i = find_rules i ++ decide_rules i.window i.policy_record i.stm (found i)
