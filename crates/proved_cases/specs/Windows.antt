-- Windows as bytes, from the entries of their tables, and the memory around them.
use Rattle.std.specs.Prelude.{ℕ, ◌+◌, ◌-◌, ◌*◌, List, [], ◌∷◌, ◌++◌, length}
use Rattle.field.specs.Number.{bytes}
use Rattle.range.specs.declared.Range.{Range}
use Rattle.range.specs.Range.{page_size}
use Rattle.pages.specs.Memory.{Memory}
use Rattle.proved_cases.specs.Modules.{zeros}

abbrev pub range : ℕ → ℕ → Range
range base size = record { base = base; size = size }

-- an entry that is present and names a page of memory
abbrev pub entry_of : ℕ → ℕ
entry_of address = address + 1

abbrev pub entry_bytes : List ℕ → List ℕ
entry_bytes [] = []
entry_bytes (e ∷ es) = bytes 8 e ++ entry_bytes es

-- a table of one page with these entries first, and zeros after them
unfoldable pub table_with : List ℕ → List ℕ
table_with es = entry_bytes es ++ zeros (page_size - 8 * length es)

abbrev pub window_base : ℕ
window_base = 0x101000

-- the pointer table at 0x101000, a directory at 0x102000, a page table with these entries at 0x103000, and the pages at 0x104000 and 0x105000
unfoldable pub window_with : List ℕ → List ℕ
window_with pages = table_with (entry_of 0x102000 ∷ []) ++ (table_with (entry_of 0x103000 ∷ []) ++ (table_with pages ++ zeros 8192))

-- the window lies in DPR, clear of the heap and of the module, and nothing is reserved
abbrev pub memory : Memory
memory =
    record {
      window = window_base;
      heap = range 0x200000 0x10000;
      sinit = range 0x300000 0x8000;
      reserved = [];
      dpr = range 0x100000 0x100000;
      low = range 0 0;
      high = range 0 0;
    }
