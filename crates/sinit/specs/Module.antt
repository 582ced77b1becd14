-- Where the fields of a SINIT module stand, and the numbers that they are compared with: the header, the information table at E, the chipset list, and the
-- editions of the header.
use Rattle.std.specs.Prelude.{ℕ, ◌+◌, ◌*◌, ◌-◌, ◌^◌, ◌/◌, cond, List, [], ◌∷◌, eqb}
use Rattle.field.specs.Field.{number_at}
use Rattle.sinit.specs.declared.header.Edition.{Edition}

-- THE PLACE. "Base a multiple of 4096; length a multiple of 64, at least 704, at most the ACRAM capacity; base plus length at most 2^32−1."

abbrev pub length_unit : ℕ
length_unit = 64

abbrev pub highest_module_end : ℕ
highest_module_end = 2 ^ 32 - 1

-- THE HEADER. "type 0 (16) = 2; HeaderLen 4 (32) = 161; version 8 (32) = 0; flags 14 (16); vendor 16 (32) = 0x8086; size 24 (32), times 4 the length;
-- GDTLimit 40, GDTBasePtr 44, SegSel 48, EntryPoint 52; KeySize 120 = 64; ScratchSize 124 (all 32-bit)."

abbrev pub type : List ℕ → ℕ
type m = number_at m 0 2

abbrev pub chipset_module : ℕ
chipset_module = 2

abbrev pub header_len : List ℕ → ℕ
header_len m = number_at m 4 4

abbrev pub version : List ℕ → ℕ
version m = number_at m 8 4

abbrev pub flags : List ℕ → ℕ
flags m = number_at m 14 2

abbrev pub vendor : List ℕ → ℕ
vendor m = number_at m 16 4

abbrev pub intel : ℕ
intel = 0x8086

abbrev pub size : List ℕ → ℕ
size m = number_at m 24 4

abbrev pub gdt_limit : List ℕ → ℕ
gdt_limit m = number_at m 40 4

abbrev pub gdt_base_ptr : List ℕ → ℕ
gdt_base_ptr m = number_at m 44 4

abbrev pub seg_sel : List ℕ → ℕ
seg_sel m = number_at m 48 4

abbrev pub entry_point : List ℕ → ℕ
entry_point m = number_at m 52 4

abbrev pub key_size : List ℕ → ℕ
key_size m = number_at m 120 4

abbrev pub scratch_size : List ℕ → ℕ
scratch_size m = number_at m 124 4

-- "Let E = 4·HeaderLen + 4·ScratchSize."
unfoldable pub E : List ℕ → ℕ
E m = 4 * header_len m + 4 * scratch_size m

-- "GDTLimit < 65,536"
abbrev pub gdt_limit_end : ℕ
gdt_limit_end = 65536

-- "SegSel ≥ 8, a multiple of 8, SegSel + 15 ≤ GDTLimit": a descriptor has 8 bytes, and the second of two ends 15 bytes after the first begins
abbrev pub descriptor_size : ℕ
descriptor_size = 8

abbrev pub second_end : ℕ
second_end = 15

-- THE INFORMATION TABLE. "The information table is the 44 bytes at E, inside the module: UUID bytes AA 3A C0 7F A7 46 DB 18 2E AC 69 8F 8D 41 7F 5A;
-- type at 16 (8) = 1; length at 18 (16) ≥ 44; chipset list offset, from the module's first byte, at 20, OsSinitDataVer 24, MinMleHeaderVer 28 (32 each);
-- AcmVersion at 36 (8)."

abbrev pub table_size : ℕ
table_size = 44

abbrev pub uuid : List ℕ
uuid =
    0xAA ∷ 0x3A ∷ 0xC0 ∷ 0x7F ∷ 0xA7 ∷ 0x46 ∷ 0xDB ∷ 0x18 ∷ 0x2E ∷ 0xAC ∷ 0x69 ∷ 0x8F ∷ 0x8D ∷ 0x41 ∷ 0x7F ∷ 0x5A ∷ []

abbrev pub table_type : List ℕ → ℕ
table_type m = number_at m (E m + 16) 1

abbrev pub sinit_table : ℕ
sinit_table = 1

abbrev pub table_length : List ℕ → ℕ
table_length m = number_at m (E m + 18) 2

abbrev pub chipset_list : List ℕ → ℕ
chipset_list m = number_at m (E m + 20) 4

abbrev pub os_sinit_data_ver : List ℕ → ℕ
os_sinit_data_ver m = number_at m (E m + 24) 4

abbrev pub min_mle_header_ver : List ℕ → ℕ
min_mle_header_ver m = number_at m (E m + 28) 4

abbrev pub acm_version : List ℕ → ℕ
acm_version m = number_at m (E m + 36) 1

-- THE CHIPSET LIST. "The list: count (32) at most 64, then 16-byte entries inside the module: flags (32), vendor, device, revision (16 each), 6 reserved."

abbrev pub count_size : ℕ
count_size = 4

abbrev pub count : List ℕ → ℕ
count m = number_at m (chipset_list m) count_size

abbrev pub most_entries : ℕ
most_entries = 64

abbrev pub entry_size : ℕ
entry_size = 16

-- the offset of an entry, and the fields of the entry at an offset
abbrev pub entry_at : List ℕ → ℕ → ℕ
entry_at m i = chipset_list m + count_size + entry_size * i

abbrev pub entry_flags : List ℕ → ℕ → ℕ
entry_flags m at = number_at m at 4

abbrev pub entry_vendor : List ℕ → ℕ → ℕ
entry_vendor m at = number_at m (at + 4) 2

abbrev pub entry_device : List ℕ → ℕ → ℕ
entry_device m at = number_at m (at + 6) 2

abbrev pub entry_revision : List ℕ → ℕ → ℕ
entry_revision m at = number_at m (at + 8) 2

-- THE EDITIONS OF THE HEADER, a row each: version, HeaderLen, KeySize, and the least length of a module. Request (viii): "modules with header version
-- 0x00030000, HeaderLen 224 and KeySize 96 (32-bit words)"

-- "the least length is the least multiple of 64 that holds header and information table with no scratch"
abbrev pub least_length : ℕ → ℕ
least_length words = (4 * words + table_size + (length_unit - 1)) / length_unit * length_unit

abbrev pub edition : ℕ → ℕ → ℕ → Edition
edition v words key_words = record { version = v; header_len = words; key_size = key_words; least_length = least_length words }

abbrev pub first : Edition
first = edition 0 161 64

abbrev pub second : Edition
second = edition 0x00030000 224 96

abbrev pub editions : List Edition
editions = first ∷ second ∷ []

-- the row of a version, or another where no row has it
unfoldable pub row_of : ℕ → Edition → List Edition → Edition
row_of v other [] = other
row_of v other (row ∷ rows) = cond (eqb row.version v) row (row_of v other rows)

-- a module's version picks its edition; one whose version no row has is judged by the first: its least length is 704, and rule 7 refuses it
abbrev pub edition_of : List ℕ → Edition
edition_of m = row_of (version m) first editions
