-- The heap by rules 2 to 5: its three parts, the fields of OsSinitData, its elements and its PMRs. All sums are whole numbers.
use Rattle.std.specs.Prelude.{ℕ, zero, suc, ◌+◌, ◌^◌, Bool, false, cond, ◌&&◌, ◌||◌, List, [], ◌∷◌, leb, eqb, length, take, drop, Result, Ok, Err}
use Rattle.field.specs.Field.{number_at}
use Rattle.range.specs.declared.Range.{Range}
use Rattle.range.specs.Range.{ends_by, highest_end}
use Rattle.rules.specs.Rules.{Rule, rule, answer_by}
use Rattle.heap.specs.declared.OsSinitData.{OsSinitData}

-- "Three parts in turn: BiosData, OsMleData, OsSinitData. Each begins with a 64-bit size that counts itself". A size that does not fit is 0.
unfoldable pub bios_data_size : List ℕ → ℕ
bios_data_size heap = number_at heap 0 8

unfoldable pub os_mle_data_size : List ℕ → ℕ
os_mle_data_size heap = number_at heap (bios_data_size heap) 8

-- the offset of OsSinitData
abbrev pub os_sinit_data_at : List ℕ → ℕ
os_sinit_data_at heap = bios_data_size heap + os_mle_data_size heap

unfoldable pub os_sinit_data_size : List ℕ → ℕ
os_sinit_data_size heap = number_at heap (os_sinit_data_at heap) 8

abbrev pub least_size : ℕ
least_size = 8

-- Rule 2, "the three heap parts do not fit": each "at least 8; the sum is at most the heap length"
unfoldable pub parts_fit : List ℕ → Bool
parts_fit heap =
    leb least_size (bios_data_size heap)
    && (leb least_size (os_mle_data_size heap)
    && (leb least_size (os_sinit_data_size heap) && leb (os_sinit_data_at heap + os_sinit_data_size heap) (length heap)))

-- the bytes of OsSinitData, its size first
unfoldable pub os_sinit_part : List ℕ → List ℕ
os_sinit_part heap = take (os_sinit_data_size heap) (drop (os_sinit_data_at heap) heap)

-- "OsSinitData after its size"
abbrev pub after_size : List ℕ → List ℕ
after_size part = drop 8 part

-- "version 0 (32-bit), flags 4 (32), page table base 8, MLE Size 16, MLE header base 24 (linear), PMR low base 32, low size 40, high base 48,
-- high size 56, policy file base 64, its size 72 (64-bit each), capabilities 80 (32), RSDP 84 (64)"
unfoldable pub fields_of : List ℕ → OsSinitData
fields_of s =
    record {
      version = number_at s 0 4;
      flags = number_at s 4 4;
      page_table_base = number_at s 8 8;
      mle_size = number_at s 16 8;
      mle_header_base = number_at s 24 8;
      pmr_low_base = number_at s 32 8;
      pmr_low_size = number_at s 40 8;
      pmr_high_base = number_at s 48 8;
      pmr_high_size = number_at s 56 8;
      policy_file_base = number_at s 64 8;
      policy_file_size = number_at s 72 8;
      capabilities = number_at s 80 4;
      rsdp = number_at s 84 8;
    }

-- "elements from 92"
abbrev pub elements_of : List ℕ → List ℕ
elements_of s = drop 92 s

-- Rule 3, "OsSinitData under 108 bytes, or version not 6 or 7"
abbrev pub least_part : ℕ
least_part = 108

unfoldable pub version_known : ℕ → Bool
version_known version = eqb version 6 || eqb version 7

-- "An element is type and size (32-bit each), size at least 8, inside the part."
abbrev pub type_at : List ℕ → ℕ → ℕ
type_at s at = number_at s at 4

abbrev pub size_at : List ℕ → ℕ → ℕ
size_at s at = number_at s (at + 4) 4

unfoldable pub size_fits : ℕ → ℕ → ℕ → Bool
size_fits at size end = leb least_size size && leb (at + size) end

abbrev pub element_at : List ℕ → ℕ → Bool
element_at s at = size_fits at (size_at s at) (length s)

-- Rule 4, "heap elements malformed": "Type 0 has size 8 and ends; bytes after it are ignored. Unknown types are skipped (001). No end: 4."
-- At most n elements are tried.
unfoldable pub ends_within : ℕ → List ℕ → ℕ → Bool
ends_within zero s at = false
ends_within (suc n) s at =
    element_at s at && cond (eqb (type_at s at) 0) (eqb (size_at s at) 8) (ends_within n s (at + size_at s at))

-- there are no more elements than bytes
abbrev pub elements_end : List ℕ → Bool
elements_end s = ends_within (length s) s 0

-- Rule 5, "PMR rule": "A PMR of size 0 is unused."
abbrev pub unused : Range → Bool
unused pmr = eqb pmr.size 0

abbrev pub low_limit : ℕ
low_limit = 2 ^ 32

-- "A used low one ends at or below 2^32;"
unfoldable pub low_placed : Range → Bool
low_placed pmr = unused pmr || ends_by pmr low_limit

-- "a used high one begins at or above 2^32 and ends at or below 2^52"
unfoldable pub high_placed : Range → Bool
high_placed pmr = unused pmr || (leb low_limit pmr.base && ends_by pmr highest_end)

abbrev pub low_pmr : OsSinitData → Range
low_pmr o = record { base = o.pmr_low_base; size = o.pmr_low_size }

abbrev pub high_pmr : OsSinitData → Range
high_pmr o = record { base = o.pmr_high_base; size = o.pmr_high_size }

unfoldable pub pmrs_placed : OsSinitData → Bool
pmrs_placed o = low_placed (low_pmr o) && high_placed (high_pmr o)

-- rules 3 to 5, of the bytes of OsSinitData
abbrev pub part_rules : List ℕ → List Rule
part_rules part =
    rule 3 (leb least_part (length part) && version_known (fields_of (after_size part)).version)
    ∷ rule 4 (elements_end (elements_of (after_size part)))
    ∷ rule 5 (pmrs_placed (fields_of (after_size part)))
    ∷ []

-- the rules in the order they are tried
abbrev pub heap_rules : List ℕ → List Rule
heap_rules heap = rule 2 (parts_fit heap) ∷ part_rules (os_sinit_part heap)

-- what rules 3 to 5 answer
unfoldable pub part_answer : List ℕ → Result OsSinitData ℕ
part_answer part = answer_by Err (Ok (fields_of (after_size part))) (part_rules part)

-- the fields and the elements of the heap's OsSinitData
abbrev pub heap_fields : List ℕ → OsSinitData
heap_fields heap = fields_of (after_size (os_sinit_part heap))

abbrev pub heap_elements : List ℕ → List ℕ
heap_elements heap = elements_of (after_size (os_sinit_part heap))

-- the fields where all rules hold, else the number of the first that fails
unfoldable pub heap_of : List ℕ → Result OsSinitData ℕ
heap_of heap = answer_by Err (Ok (heap_fields heap)) (heap_rules heap)
