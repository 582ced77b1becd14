-- The cases marked P of "Both sides of a line", each with its number there, the number that the specification answers and the number expected.
-- Beside each refusal stands the case on the other side, so that each answer is another where its limit is.
use Rattle.std.specs.Prelude.{ℕ, ◌-◌, ◌+◌, ◌^◌, ◌≡◌, false, List, [], ◌∷◌, ◌++◌, take}
use Rattle.rules.specs.Refusal.{number_of}
use Rattle.heap.specs.Heap.{heap_of}
use Rattle.sinit.specs.Rules as sinit
use Rattle.pages.specs.Rules as pages
use Rattle.policy_grammar.specs.Parser.{value_of}
use Rattle.policy_grammar.specs.Decode.{element}
use Rattle.policy_answers.specs.Answers.{file_answer}
use Rattle.policy_answers.specs.Seen as policy
use Rattle.field.specs.Number.{bytes}
use Rattle.decision.specs.Lists.{Criteria}
use Rattle.proved_cases.specs.Heaps.{heap_element, end_element, after_size, os_sinit_data, heap_bytes}
use Rattle.proved_cases.specs.Policies.{file_with, no_digest, size_of, names_in}
use Rattle.proved_cases.specs.Modules.{zeros, module_with}
use Rattle.proved_cases.specs.Windows.{entry_of, window_base, window_with, memory}

pub record Case : Type 0 where
  pub paper : ℕ
  pub answer : ℕ
  pub expected : ℕ

abbrev pub case : ℕ → ℕ → ℕ → Case
case p a e = record { paper = p; answer = a; expected = e }

abbrev pub AllCases : List Case → Type 0
AllCases [] = Unit
AllCases (c ∷ cs) = (c.answer ≡ c.expected) × AllCases cs

abbrev pub heap_number : List ℕ → ℕ
heap_number heap = number_of (heap_of heap)

-- the sizes 8, 8, 108, in 124 bytes
abbrev pub least : List ℕ
least = heap_bytes 8 8 (os_sinit_data 108 0 0 end_element)

-- BiosData of a size, and where it ends OsMleData of 256 bytes. The size's highest byte, 0, is the 8th; where OsMleData begins there, it is the
-- lowest byte of its size
abbrev pub bios_data_of : ℕ → List ℕ
bios_data_of size = bytes 8 size ++ (zeros (size - 7) ++ (bytes 7 1 ++ (zeros 248 ++ os_sinit_data 108 0 0 end_element)))

-- OsMleData of a size, and where it ends OsSinitData of 256 bytes
abbrev pub os_mle_data_of : ℕ → List ℕ
os_mle_data_of size = heap_bytes 8 size (zeros (size - 7) ++ (bytes 7 1 ++ (after_size 0 0 end_element ++ zeros 148)))

-- an element of type 1 of a size, and where it ends an end element
abbrev pub element_of : ℕ → List ℕ
element_of size = heap_bytes 8 8 (os_sinit_data (108 + size) 0 0 (heap_element 1 size ++ (zeros (size - 7) ++ (zeros 3 ++ bytes 4 8))))

-- a low PMR of so many bytes, 2 MiB below 2^32
abbrev pub with_low_pmr : ℕ → List ℕ
with_low_pmr size = heap_bytes 8 8 (os_sinit_data 108 (2 ^ 32 - 2 ^ 21) size end_element)

-- the answer for a module with a GDT limit and the selector 8, on a platform that all other rules permit
abbrev pub module_number : ℕ → ℕ
module_number limit =
    number_of (sinit.module_of (module_with limit) 0x7F000000 0x8000 (record { vendor = 0x8086; device = 0xB001; revision = 5 }) 7)

-- the number for a policy file of so many lists
abbrev pub file_number : ℕ → ℕ
file_number count = policy.number_of (file_answer (file_with count))

-- the answer for the walk of a window whose page table has these entries
unfoldable pub walk_number : List ℕ → ℕ
walk_number entries = number_of (pages.walk_of (window_with entries) memory window_base)

abbrev pub cases : List Case
cases =
    -- "P1 Heap sizes 8, 8, 108 in 124 bytes pass rule 2; P2 in 123 bytes: 2."
    case 1 (heap_number least) 0
    ∷ case 2 (heap_number (take 123 least)) 2
    -- "P3 part size 7: 2."
    ∷ case 3 (heap_number (bios_data_of 7)) 2
    ∷ case 3 (heap_number (bios_data_of 8)) 0
    ∷ case 3 (heap_number (os_mle_data_of 7)) 2
    ∷ case 3 (heap_number (os_mle_data_of 8)) 0
    -- OsSinitData of 8 bytes passes rule 2 and not rule 3
    ∷ case 3 (heap_number (heap_bytes 8 8 (os_sinit_data 7 0 0 end_element))) 2
    ∷ case 3 (heap_number (heap_bytes 8 8 (os_sinit_data 8 0 0 end_element))) 3
    -- "P4 element size 7: 4."
    ∷ case 4 (heap_number (element_of 7)) 4
    ∷ case 4 (heap_number (element_of 8)) 0
    -- "P5 low PMR ending at 2^32 passes; P6 one byte more: 5."
    ∷ case 5 (heap_number (with_low_pmr (2 ^ 21))) 0
    ∷ case 6 (heap_number (with_low_pmr (2 ^ 21 + 1))) 5
    -- "P7 SegSel 8 with GDTLimit 23 passes; P8 with 22: 8."
    ∷ case 7 (module_number 23) 0
    ∷ case 8 (module_number 22) 8
    -- "P11 list count 0 or 9: 27."
    ∷ case 11 (file_number 0) 27
    ∷ case 11 (file_number 1) 0
    ∷ case 11 (file_number 8) 0
    ∷ case 11 (file_number 9) 27
    -- "P12 a 0x10 element with count 0 is 18 bytes and names nothing."
    ∷ case 12 (size_of (value_of (element no_digest))) 18
    -- "P9 two pages at 0x105000, 0x104000: 16." In the other order they pass.
    ∷ case 9 (walk_number (entry_of 0x105000 ∷ entry_of 0x104000 ∷ [])) 16
    ∷ case 9 (walk_number (entry_of 0x104000 ∷ entry_of 0x105000 ∷ [])) 0
    -- "P10 equal addresses: 16."
    ∷ case 10 (walk_number (entry_of 0x104000 ∷ entry_of 0x104000 ∷ [])) 16
    ∷ []

-- P12, "names nothing": whatever a list is judged by
abbrev pub NamesNothing : Type 0
NamesNothing = (k : Criteria) → names_in k (value_of (element no_digest)) ≡ false

-- the one statement of the cases
pub record BothSides : Type 0 where
  pub table : AllCases cases
  pub names_nothing : NamesNothing
