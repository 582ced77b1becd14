-- Rules 6 to 11, in the order they are tried, and the answer: the number of the first that fails, or the module's values. All sums are whole numbers.
use Rattle.std.specs.Prelude.{ℕ, zero, suc, ◌+◌, ◌*◌, ◌%◌, Bool, false, cond, not, ◌||◌, List, [], ◌∷◌, leb, ltb, eqb, length, Result, Ok, Err}
use Rattle.std.specs.Int.Bits.{bit_and}
use Rattle.field.specs.Field.{marked_at}
use Rattle.range.specs.Range.{inside_of, ends_by, page_size}
use Rattle.rules.specs.Rules.{Rule, rule, all, answer_by}
use Rattle.sinit.specs.declared.Chipset.{Chipset}
use Rattle.sinit.specs.declared.ModuleData.{ModuleData}
use Rattle.sinit.specs.Module.{length_unit, highest_module_end, edition_of}
use Rattle.sinit.specs.Module.{type, chipset_module, header_len, version, flags, vendor, intel, size, key_size}
use Rattle.sinit.specs.Module.{E, gdt_limit, gdt_limit_end, gdt_base_ptr, entry_point, seg_sel, descriptor_size, second_end}
use Rattle.sinit.specs.Module.{table_size, uuid, table_type, sinit_table, table_length, chipset_list, os_sinit_data_ver, min_mle_header_ver, acm_version}
use Rattle.sinit.specs.Module.{count_size, count, most_entries, entry_size, entry_at, entry_flags, entry_vendor, entry_device, entry_revision}

-- a test holds of some number below a bound
unfoldable pub some_below : (ℕ → Bool) → ℕ → Bool
some_below p zero = false
some_below p (suc n) = some_below p n || p n

-- a multiple of n
abbrev pub multiple : ℕ → ℕ → Bool
multiple n x = eqb (x % n) 0

-- n bytes from an offset on are inside the module
unfoldable pub inside : List ℕ → ℕ → ℕ → Bool
inside m at n = inside_of (record { base = at; size = n }) (record { base = 0; size = length m })

-- 6. "Base a multiple of 4096; length a multiple of 64, at least 704, at most the ACRAM capacity; base plus length at most 2^32−1."
-- Request (viii): "the header version alone picks the least length, and an unknown version keeps 704"
unfoldable pub place : List ℕ → ℕ → ℕ → List Bool
place m base capacity =
    multiple page_size base
    ∷ multiple length_unit (length m)
    ∷ leb (edition_of m).least_length (length m)
    ∷ leb (length m) capacity
    ∷ ends_by (record { base = base; size = length m }) highest_module_end
    ∷ []

-- 7. "Header: type 0 (16) = 2; HeaderLen 4 (32) = 161; version 8 (32) = 0; .. vendor 16 (32) = 0x8086; size 24 (32), times 4 the length; .. KeySize 120 = 64"
-- Request (viii): "A header that mixes the two editions is 7."
unfoldable pub header : List ℕ → List Bool
header m =
    eqb (type m) chipset_module
    ∷ eqb (header_len m) (edition_of m).header_len
    ∷ eqb (version m) (edition_of m).version
    ∷ eqb (vendor m) intel
    ∷ eqb (4 * size m) (length m)
    ∷ eqb (key_size m) (edition_of m).key_size
    ∷ []

-- 8. "GDTBasePtr ≥ E; GDTBasePtr + GDTLimit < length; GDTLimit < 65,536"
unfoldable pub gdt : List ℕ → List Bool
gdt m =
    leb (E m) (gdt_base_ptr m)
    ∷ ltb (gdt_base_ptr m + gdt_limit m) (length m)
    ∷ ltb (gdt_limit m) gdt_limit_end
    ∷ []

-- 8. "E ≤ EntryPoint < length"
unfoldable pub entry : List ℕ → List Bool
entry m = leb (E m) (entry_point m) ∷ ltb (entry_point m) (length m) ∷ []

-- 8. "SegSel ≥ 8, a multiple of 8, SegSel + 15 ≤ GDTLimit"
unfoldable pub selector : List ℕ → List Bool
selector m = leb descriptor_size (seg_sel m) ∷ multiple descriptor_size (seg_sel m) ∷ leb (seg_sel m + second_end) (gdt_limit m) ∷ []

-- 9. "The information table is the 44 bytes at E, inside the module: UUID bytes ..; type at 16 (8) = 1; length at 18 (16) ≥ 44"
unfoldable pub table : List ℕ → List Bool
table m =
    inside m (E m) table_size
    ∷ marked_at m (E m) uuid
    ∷ eqb (table_type m) sinit_table
    ∷ leb table_size (table_length m)
    ∷ []

-- 9. "The list: count (32) at most 64, then 16-byte entries inside the module"
unfoldable pub list : List ℕ → List Bool
list m =
    inside m (chipset_list m) count_size
    ∷ leb (count m) most_entries
    ∷ inside m (chipset_list m + count_size) (entry_size * count m)
    ∷ []

-- "with flag bit 0 clear, equal revision; with it set, revision AND the chipset's revision is not 0"
unfoldable pub revision_matches : ℕ → ℕ → ℕ → Bool
revision_matches flags r chipset = cond (eqb (flags % 2) 0) (eqb r chipset) (not (eqb (bit_and r chipset) 0))

-- "An entry matches on equal vendor and device and .. revision": the entry at an offset
unfoldable pub match : List ℕ → Chipset → ℕ → List Bool
match m c at =
    eqb (entry_vendor m at) c.vendor
    ∷ eqb (entry_device m at) c.device
    ∷ revision_matches (entry_flags m at) (entry_revision m at) c.revision
    ∷ []

-- 10. "chipset not listed": some entry matches
unfoldable pub listed : List ℕ → Chipset → Bool
listed m c = some_below (λ (i : ℕ). all (match m c (entry_at m i))) (count m)

-- 11. "OsSinitData version above the module's"
unfoldable pub supported : List ℕ → ℕ → Bool
supported m os_sinit_data = leb os_sinit_data (os_sinit_data_ver m)

-- the rules in the order they are tried: those of the information table, and all
abbrev pub table_rules : List ℕ → Chipset → ℕ → List Rule
table_rules m c os_sinit_data =
    rule 9 (all (table m))
    ∷ rule 9 (all (list m))
    ∷ rule 10 (listed m c)
    ∷ rule 11 (supported m os_sinit_data)
    ∷ []

abbrev pub rules : List ℕ → ℕ → ℕ → Chipset → ℕ → List Rule
rules m base capacity c os_sinit_data =
    rule 6 (all (place m base capacity))
    ∷ rule 7 (all (header m))
    ∷ rule 8 (all (gdt m))
    ∷ rule 8 (all (entry m))
    ∷ rule 8 (all (selector m))
    ∷ table_rules m c os_sinit_data

-- what later rules read
abbrev pub values_of : List ℕ → ModuleData
values_of m =
    record {
      flags = flags m;
      os_sinit_data_ver = os_sinit_data_ver m;
      min_mle_header_ver = min_mle_header_ver m;
      acm_version = acm_version m;
    }

-- the values where all rules hold, else the number of the first that fails
unfoldable pub module_of : List ℕ → ℕ → ℕ → Chipset → ℕ → Result ModuleData ℕ
module_of m base capacity c os_sinit_data = answer_by Err (Ok (values_of m)) (rules m base capacity c os_sinit_data)
