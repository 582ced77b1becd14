-- Pages of memory: inside the window, clear of what is forbidden, held by a region that is protected against DMA. What is forbidden, and what is
-- protected, stands here once.
use Rattle.std.specs.Prelude.{ℕ, Bool, List, [], ◌∷◌, length}
use Rattle.range.specs.declared.Range.{Range}
use Rattle.range.specs.Range.{inside_of, clear_of, page_size}
use Rattle.range.specs.Pairs.{ranges_of}
use Rattle.rules.specs.Tests.{every, any, filter}
use Rattle.pages.specs.declared.MemoryRanges.{MemoryRanges}

-- "Each stands for 4,096 bytes"
abbrev pub page_of : ℕ → Range
page_of a = record { base = a; size = page_size }

-- "A physical address p is byte p minus window base of the window."
abbrev pub window_of : List ℕ → ℕ → Range
window_of w base = record { base = base; size = length w }

-- what the walk is told of the memory: where the window begins, and the ranges that the rules name
pub record Memory : Type 0 where
  pub window : ℕ
  pub heap : Range
  pub sinit : Range
  pub reserved : List Range
  pub dpr : Range
  pub low : Range
  pub high : Range

-- the reserved ranges are lent beside the others, as numbers
abbrev pub memory_of : MemoryRanges → List ℕ → Memory
memory_of m numbers =
    record {
      window = m.window;
      heap = m.heap;
      sinit = m.sinit;
      reserved = ranges_of numbers;
      dpr = m.dpr;
      low = m.low;
      high = m.high;
    }

-- "0xA0000 to 0xFFFFF"
abbrev pub low_forbidden : Range
low_forbidden = record { base = 0xA0000; size = 0x60000 }

-- "the hole, the heap, the module and all of these"
abbrev pub forbidden : Memory → List Range
forbidden m = low_forbidden ∷ m.heap ∷ m.sinit ∷ m.reserved

-- "DPR, the low PMR or the high PMR"
abbrev pub regions : Memory → List Range
regions m = m.dpr ∷ m.low ∷ m.high ∷ []

-- rule 17
unfoldable pub allowed : Memory → ℕ → Bool
allowed m a = every (clear_of (page_of a)) (forbidden m)

-- rule 20, for tables and pages: one of these regions holds the page of memory at a, "wholly in"
unfoldable pub protected : List Range → ℕ → Bool
protected rs a = any (inside_of (page_of a)) rs

-- those of the regions that hold the page: "The first page picks every region that holds it"
unfoldable pub holding : List Range → ℕ → List Range
holding rs a = filter (inside_of (page_of a)) rs
