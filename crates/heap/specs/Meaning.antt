-- What rules 2 to 5 say of a heap, as propositions, and what the answer means.
use Rattle.std.specs.Prelude.{ℕ, zero, suc, ◌+◌, ◌≤◌, ◌<◌, ◌≡◌, ◌↔◌, ◌⊎◌, List, [], ◌∷◌, length, Ok, Err}
use Rattle.range.specs.Range.{end_of, highest_end}
use Rattle.rules.specs.Rules.{first_failing}
use Rattle.rules.specs.Meaning.{Meaning, meaning, FirstBroken}
use Rattle.rules.specs.Refusal.{number_of}
use Rattle.heap.specs.declared.OsSinitData.{OsSinitData}
use Rattle.heap.specs.Heap.{bios_data_size, os_mle_data_size, os_sinit_data_at, os_sinit_data_size, least_size, os_sinit_part, least_part, heap_fields, heap_elements, type_at, size_at, low_pmr, high_pmr, low_limit, heap_rules, heap_of}

-- rule 2
pub record PartsFit (heap : List ℕ) : Type 0 where
  pub bios_data : least_size ≤ bios_data_size heap
  pub os_mle_data : least_size ≤ os_mle_data_size heap
  pub os_sinit_data : least_size ≤ os_sinit_data_size heap
  pub sum : os_sinit_data_at heap + os_sinit_data_size heap ≤ length heap

-- rule 3
pub record Supported (heap : List ℕ) : Type 0 where
  pub least : least_part ≤ length (os_sinit_part heap)
  pub version : ((heap_fields heap).version ≡ 6) ⊎ ((heap_fields heap).version ≡ 7)

-- an element, of at least 8 bytes and inside the part
pub record Element (s : List ℕ) (at : ℕ) : Type 0 where
  pub least : least_size ≤ size_at s at
  pub inside : at + size_at s at ≤ length s

-- an element of another type than 0
pub record Skipped (s : List ℕ) (at : ℕ) : Type 0 where
  pub element : Element s at
  pub other : type_at s at ≡ 0 → ⊥

-- where the element number k begins: where the one before it ends
unfoldable pub place_of : List ℕ → ℕ → ℕ
place_of s zero = 0
place_of s (suc k) = place_of s k + size_at s (place_of s k)

-- rule 4: each element before the last is skipped, and the last is of type 0 and size 8
pub record ElementsEnd (s : List ℕ) : Type 0 where
  pub last : ℕ
  pub earlier : (k : ℕ) → k < last → Skipped s (place_of s k)
  pub element : Element s (place_of s last)
  pub kind : type_at s (place_of s last) ≡ 0
  pub size : size_at s (place_of s last) ≡ 8

-- rule 5
pub record PmrsPlaced (o : OsSinitData) : Type 0 where
  pub low : 0 < (low_pmr o).size → end_of (low_pmr o) ≤ low_limit
  pub high : 0 < (high_pmr o).size → (low_limit ≤ (high_pmr o).base) × (end_of (high_pmr o) ≤ highest_end)

-- every rule holds
pub record HeapHolds (heap : List ℕ) : Type 0 where
  pub parts : PartsFit heap
  pub supported : Supported heap
  pub elements : ElementsEnd (heap_elements heap)
  pub pmrs : PmrsPlaced (heap_fields heap)

-- the rules in the order they are tried
abbrev pub heap_meanings : List ℕ → List Meaning
heap_meanings heap =
    meaning 2 (PartsFit heap)
    ∷ meaning 3 (Supported heap)
    ∷ meaning 4 (ElementsEnd (heap_elements heap))
    ∷ meaning 5 (PmrsPlaced (heap_fields heap))
    ∷ []

-- the number of the answer is that of the first rule that fails
abbrev pub NumberIsFirst : Type 0
NumberIsFirst = (heap : List ℕ) → number_of (heap_of heap) ≡ first_failing (heap_rules heap)

-- the answer is the fields of OsSinitData exactly where all rules hold
abbrev pub AcceptedExactly : Type 0
AcceptedExactly = (heap : List ℕ) (o : OsSinitData) → (heap_of heap ≡ Ok o) ↔ (HeapHolds heap × (o ≡ heap_fields heap))

-- a number is answered exactly where it is that of the first rule that is broken
abbrev pub RefusedExactly : Type 0
RefusedExactly = (heap : List ℕ) (n : ℕ) → (heap_of heap ≡ Err n) ↔ FirstBroken (heap_meanings heap) n
