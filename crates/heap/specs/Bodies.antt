-- Bytes of a heap that never change its answer.
use Rattle.std.specs.Prelude.{ℕ, suc, ◌+◌, ◌≤◌, ◌<◌, ◌≡◌, List, length, get_or}
use Rattle.heap.specs.Heap.{bios_data_size, os_sinit_data_at, os_sinit_data_size, heap_elements, type_at, heap_of}
use Rattle.heap.specs.Meaning.{PartsFit, Skipped, place_of}

-- the offset of the element number k in the heap
abbrev pub element_place : List ℕ → ℕ → ℕ
element_place heap k = os_sinit_data_at heap + (8 + (92 + place_of (heap_elements heap) k))

-- the first k elements are skipped
abbrev pub Reached : List ℕ → ℕ → Type 0
Reached s k = (j : ℕ) → j < k → Skipped s (place_of s j)

pub data Ignored (heap : List ℕ) (i : ℕ) : Type 0 where
  -- "The bodies of BiosData, OsMleData and of skipped elements"
  bios_data : 8 ≤ i → i < bios_data_size heap → Ignored heap i
  os_mle_data : bios_data_size heap + 8 ≤ i → i < os_sinit_data_at heap → Ignored heap i
  skipped : PartsFit heap → (k : ℕ) → Reached (heap_elements heap) (suc k) → element_place heap k + 8 ≤ i → i < element_place heap (suc k) → Ignored heap i
  -- "Type 0 has size 8 and ends; bytes after it are ignored."
  after_end : PartsFit heap → (k : ℕ) → Reached (heap_elements heap) k → type_at (heap_elements heap) (place_of (heap_elements heap) k) ≡ 0
      → element_place heap k + 8 ≤ i → Ignored heap i
  -- "SINIT writes the fourth part later; it is not read."
  after_parts : PartsFit heap → os_sinit_data_at heap + os_sinit_data_size heap ≤ i → Ignored heap i

-- all else is the same, the length of the heap included
pub record SameElsewhere (s t : List ℕ) : Type 0 where
  pub lengths : length s ≡ length t
  pub bytes : (i : ℕ) → (Ignored s i → ⊥) → get_or s i 0 ≡ get_or t i 0

-- "never change an answer when all else [..] is the same"
abbrev pub BodiesNeverMatter : Type 0
BodiesNeverMatter = (s t : List ℕ) → SameElsewhere s t → heap_of s ≡ heap_of t
