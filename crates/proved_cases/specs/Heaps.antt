-- Heaps as bytes, from their sizes, the low PMR and the elements.
use Rattle.std.specs.Prelude.{ℕ, List, ◌++◌}
use Rattle.field.specs.Number.{bytes}

abbrev pub heap_element : ℕ → ℕ → List ℕ
heap_element kind size = bytes 4 kind ++ bytes 4 size

abbrev pub end_element : List ℕ
end_element = heap_element 0 8

-- OsSinitData of version 7 after its size: its fields, 0 but for the low PMR, and its elements
abbrev pub after_size : ℕ → ℕ → List ℕ → List ℕ
after_size lowBase lowSize elements =
    bytes 4 7
    ++ bytes 4 0
    ++ bytes 8 0
    ++ bytes 8 0
    ++ bytes 8 0
    ++ bytes 8 lowBase
    ++ bytes 8 lowSize
    ++ bytes 8 0
    ++ bytes 8 0
    ++ bytes 8 0
    ++ bytes 8 0
    ++ bytes 4 0
    ++ bytes 8 0
    ++ elements

abbrev pub os_sinit_data : ℕ → ℕ → ℕ → List ℕ → List ℕ
os_sinit_data size lowBase lowSize elements = bytes 8 size ++ after_size lowBase lowSize elements

-- BiosData and OsMleData of 8 bytes each, with the sizes that they say, and OsSinitData
abbrev pub heap_bytes : ℕ → ℕ → List ℕ → List ℕ
heap_bytes bios_data_size os_mle_data_size part = bytes 8 bios_data_size ++ bytes 8 os_mle_data_size ++ part
