-- When a launch is permitted: every rule as a plain proposition, in the order of the rules, each field with its numbers.
use Rattle.std.specs.Prelude.{ℕ, ◌+◌, ◌%◌, ◌≤◌, ◌≡◌, List, length}
use Rattle.range.specs.declared.Range.{Range}
use Rattle.range.specs.Range.{end_of, highest_end, page_size}
use Rattle.range.specs.Pairs.{ranges_of}
use Rattle.rules.specs.Rules.{Every}
use Rattle.heap.specs.Heap.{heap_elements}
use Rattle.heap.specs.Meaning as heap
use Rattle.sinit.specs.Meaning as sinit
use Rattle.pages.specs.Memory.{window_of}
use Rattle.pages.specs.Meaning.{Walks}
use Rattle.mle.specs.declared.Image.{Image}
use Rattle.mle.specs.Header.{pages_of}
use Rattle.mle.specs.Meaning as mle
use Rattle.policy_grammar.specs.Grammar.{Reading, Makes}
use Rattle.policy_record.specs.Record.{policy_type, LIST}
use Rattle.policy_record.specs.Meaning as records
use Rattle.decision.specs.Meaning as decision
use Rattle.launch.specs.declared.Platform.{Platform}
use Rattle.launch.specs.declared.ReservedRanges.{ReservedRanges}
use Rattle.launch.specs.declared.Found.{Found}
use Rattle.launch.specs.Rules.{Input, most_window, most_heap, most_stm, most_reserved, dpr_range, reserved_numbers, chipset_of, found_of, os, module_data, memory, policy_file, criteria}

-- 1, of the reserved ranges
pub record ReservedHold (r : ReservedRanges) : Type 0 where
  pub most : r.count ≤ most_reserved
  pub ends : Every (λ (a : Range). end_of a ≤ highest_end) (ranges_of (reserved_numbers r))

-- 1
pub record PlatformHolds (window heap stm : List ℕ) (p : Platform) : Type 0 where
  pub on_page : p.window_base % page_size ≡ 0
  pub window_most : length window ≤ most_window
  pub heap_most : length heap ≤ most_heap
  pub stm_most : length stm ≤ most_stm
  pub window_end : end_of (window_of window p.window_base) ≤ highest_end
  pub heap_end : p.heap_base + length heap ≤ highest_end
  pub dpr_end : end_of (dpr_range p) ≤ highest_end
  pub reserved : ReservedHold p.reserved

-- 26 to 29, by what the launch finds
pub record ListPermits (window policy_record stm : List ℕ) (f : Found) : Type 0 where
  pub placed : decision.Placed window f.window_base f.policy_file.base f.policy_file.size
  -- the grammar makes the file from this reading, of whose lists the next two rules speak
  pub reading : Reading
  pub grammar : Makes reading (policy_file window f)
  pub hash : decision.HashMatches reading policy_record
  pub permits : decision.SomePermits reading (criteria window policy_record stm f)

module _ (i : Input) where
  -- "N is MLE Size divided by 4096"
  abbrev pub N : ℕ
  N = pages_of (os i).mle_size

  -- N pages from a linear page on, found through the tables
  abbrev pub pages_from : ℕ → Image
  pages_from first =
      record { window = i.platform.window_base; tables = (os i).page_table_base; first = first; count = N }

  pub record Permitted : Type 0 where
    -- 1
    pub platform : PlatformHolds i.window i.heap i.stm i.platform
    -- 2
    pub parts : heap.PartsFit i.heap
    -- 3
    pub supported : heap.Supported i.heap
    -- 4
    pub elements : heap.ElementsEnd (heap_elements i.heap)
    -- 5
    pub pmrs : heap.PmrsPlaced (os i)
    -- 6
    pub place : sinit.Place i.sinit i.platform.sinit_base i.platform.acram_capacity
    -- 7
    pub header : sinit.Header i.sinit
    -- 8
    pub gdt : sinit.Gdt i.sinit
    pub entry : sinit.Entry i.sinit
    pub selector : sinit.Selector i.sinit
    -- 9
    pub table : sinit.Table i.sinit
    pub chipsets : sinit.ChipsetList i.sinit
    -- 10
    pub listed : sinit.Listed i.sinit (chipset_of i.platform)
    -- 11
    pub version : sinit.Supported i.sinit (os i).version
    -- 12
    pub size : mle.Size (os i).mle_size
    -- 13
    pub room : N ≤ i.places
    -- 14 to 21: the walk finds N pages, from this linear page on
    pub first : ℕ
    pub walk : Walks i.window (memory i) (os i).page_table_base first N
    -- 22
    pub mle_header : mle.Header i.window (pages_from first) (os i).mle_header_base (os i).mle_size (module_data i).min_mle_header_ver
    -- 23
    pub policy_record : records.Record i.policy_record
    -- 24
    pub worthy_or_allowed : records.WorthyOrAllowed (module_data i).flags i.policy_record
    -- 25
    pub reached : records.Reached (module_data i).acm_version i.policy_record
    -- 26 to 29
    pub lists : policy_type i.policy_record ≡ LIST → ListPermits i.window i.policy_record i.stm (found_of (pages_from first) (os i) (module_data i))
