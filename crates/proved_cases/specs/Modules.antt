-- SINIT modules as bytes, with a GDT limit.
use Rattle.std.specs.Prelude.{ℕ, List, ◌++◌, replicate}
use Rattle.field.specs.Number.{bytes}
use Rattle.sinit.specs.Module.{uuid}

abbrev pub zeros : ℕ → List ℕ
zeros n = replicate n 0

-- a module of 768 bytes without a scratch area: the information table at 644, a chipset list with one entry at 688, the GDT at 712, the entry point at 736
abbrev pub module_with : ℕ → List ℕ
module_with limit =
    bytes 2 2 ++ zeros 2 ++ bytes 4 161 ++ bytes 4 0 ++ zeros 2 ++ bytes 2 0 ++ bytes 4 0x8086 ++ zeros 4 ++ bytes 4 192
    ++ zeros 12 ++ bytes 4 limit ++ bytes 4 712 ++ bytes 4 8 ++ bytes 4 736
    ++ zeros 64 ++ bytes 4 64 ++ bytes 4 0 ++ zeros 516
    ++ uuid ++ bytes 1 1 ++ zeros 1 ++ bytes 2 44 ++ bytes 4 688 ++ bytes 4 7 ++ bytes 4 0x20003 ++ zeros 4 ++ bytes 1 3 ++ zeros 7
    ++ bytes 4 1 ++ bytes 4 0 ++ bytes 2 0x8086 ++ bytes 2 0xB001 ++ bytes 2 5 ++ zeros 6
    ++ zeros 60
