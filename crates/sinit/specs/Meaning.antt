-- Rules 6 to 11 as plain propositions, in their order, and what the answer says of them.
use Rattle.std.specs.Prelude.{ℕ, ◌+◌, ◌*◌, ◌%◌, ◌≤◌, ◌<◌, ◌≡◌, ◌↔◌, List, [], ◌∷◌, length, take, drop, Ok, Err}
use Rattle.std.specs.Int.Bits.{bit_and}
use Rattle.range.specs.Range.{page_size}
use Rattle.rules.specs.Rules.{first_failing}
use Rattle.rules.specs.Meaning.{Meaning, meaning, FirstBroken}
use Rattle.rules.specs.Refusal.{number_of}
use Rattle.sinit.specs.declared.Chipset.{Chipset}
use Rattle.sinit.specs.declared.ModuleData.{ModuleData}
use Rattle.sinit.specs.Module.{length_unit, highest_module_end, edition_of}
use Rattle.sinit.specs.Module.{type, chipset_module, header_len, version, vendor, intel, size, key_size}
use Rattle.sinit.specs.Module.{E, gdt_limit, gdt_limit_end, gdt_base_ptr, entry_point, seg_sel, descriptor_size, second_end}
use Rattle.sinit.specs.Module.{table_size, uuid, table_type, sinit_table, table_length, chipset_list, os_sinit_data_ver}
use Rattle.sinit.specs.Module.{count_size, count, most_entries, entry_size, entry_at, entry_flags, entry_vendor, entry_device, entry_revision}
use Rattle.sinit.specs.Rules.{rules, values_of, module_of}

-- 6
pub record Place (m : List ℕ) (base capacity : ℕ) : Type 0 where
  pub on_page : base % page_size ≡ 0
  pub in_units : length m % length_unit ≡ 0
  pub least : (edition_of m).least_length ≤ length m
  pub most : length m ≤ capacity
  pub end : base + length m ≤ highest_module_end

-- 7
pub record Header (m : List ℕ) : Type 0 where
  pub right_type : type m ≡ chipset_module
  pub header_words : header_len m ≡ (edition_of m).header_len
  pub right_version : version m ≡ (edition_of m).version
  pub right_vendor : vendor m ≡ intel
  pub whole : 4 * size m ≡ length m
  pub key_words : key_size m ≡ (edition_of m).key_size

-- 8
pub record Gdt (m : List ℕ) : Type 0 where
  pub behind : E m ≤ gdt_base_ptr m
  pub inside : gdt_base_ptr m + gdt_limit m < length m
  pub limited : gdt_limit m < gdt_limit_end

pub record Entry (m : List ℕ) : Type 0 where
  pub behind : E m ≤ entry_point m
  pub inside : entry_point m < length m

pub record Selector (m : List ℕ) : Type 0 where
  pub not_null : descriptor_size ≤ seg_sel m
  pub in_units : seg_sel m % descriptor_size ≡ 0
  pub in_gdt : seg_sel m + second_end ≤ gdt_limit m

-- 9
pub record Table (m : List ℕ) : Type 0 where
  pub inside : E m + table_size ≤ length m
  pub marked : take (length uuid) (drop (E m) m) ≡ uuid
  pub right_type : table_type m ≡ sinit_table
  pub least : table_size ≤ table_length m

-- 9: every entry that is counted is inside the module
pub record ChipsetList (m : List ℕ) : Type 0 where
  pub inside : chipset_list m + count_size ≤ length m
  pub most : count m ≤ most_entries
  pub entries : (i : ℕ) → i < count m → entry_at m i + entry_size ≤ length m

-- the entry at an offset matches: flag bit 0 says how the revisions are compared
pub record Matches (m : List ℕ) (c : Chipset) (at : ℕ) : Type 0 where
  pub same_vendor : entry_vendor m at ≡ c.vendor
  pub same_device : entry_device m at ≡ c.device
  pub same_revision : entry_flags m at % 2 ≡ 0 → entry_revision m at ≡ c.revision
  pub shared_bit : entry_flags m at % 2 ≡ 1 → bit_and (entry_revision m at) c.revision ≡ 0 → ⊥

-- 10: some entry that is counted matches
pub record Listed (m : List ℕ) (c : Chipset) : Type 0 where
  pub index : ℕ
  pub counted : index < count m
  pub matches : Matches m c (entry_at m index)

-- 11
abbrev pub Supported : List ℕ → ℕ → Type 0
Supported m os_sinit_data = os_sinit_data ≤ os_sinit_data_ver m

-- every rule holds
pub record ModuleHolds (m : List ℕ) (base capacity : ℕ) (c : Chipset) (os_sinit_data : ℕ) : Type 0 where
  pub place : Place m base capacity
  pub header : Header m
  pub gdt : Gdt m
  pub entry : Entry m
  pub selector : Selector m
  pub table : Table m
  pub list : ChipsetList m
  pub listed : Listed m c
  pub supported : Supported m os_sinit_data

-- the rules in the order they are tried
abbrev pub meanings : List ℕ → ℕ → ℕ → Chipset → ℕ → List Meaning
meanings m base capacity c os_sinit_data =
    meaning 6 (Place m base capacity)
    ∷ meaning 7 (Header m)
    ∷ meaning 8 (Gdt m)
    ∷ meaning 8 (Entry m)
    ∷ meaning 8 (Selector m)
    ∷ meaning 9 (Table m)
    ∷ meaning 9 (ChipsetList m)
    ∷ meaning 10 (Listed m c)
    ∷ meaning 11 (Supported m os_sinit_data)
    ∷ []

-- the number of the answer is that of the first rule that fails
abbrev pub NumberIsFirst : Type 0
NumberIsFirst =
    (m : List ℕ) (base capacity : ℕ) (c : Chipset) (os_sinit_data : ℕ)
    → number_of (module_of m base capacity c os_sinit_data) ≡ first_failing (rules m base capacity c os_sinit_data)

-- the module's values are answered exactly where every rule holds
abbrev pub AcceptedExactly : Type 0
AcceptedExactly =
    (m : List ℕ) (base capacity : ℕ) (c : Chipset) (os_sinit_data : ℕ) (values : ModuleData)
    → (module_of m base capacity c os_sinit_data ≡ Ok values) ↔ (ModuleHolds m base capacity c os_sinit_data × (values ≡ values_of m))

-- a number is answered exactly where it is that of the first rule that is broken
abbrev pub RefusedExactly : Type 0
RefusedExactly =
    (m : List ℕ) (base capacity : ℕ) (c : Chipset) (os_sinit_data n : ℕ)
    → (module_of m base capacity c os_sinit_data ≡ Err n) ↔ FirstBroken (meanings m base capacity c os_sinit_data) n
