-- What the editions of the header mean: their least lengths, which of them a version picks, and that no header that passes rule 7 mixes them. The sentences
-- in quotes are those of request (viii). Each statement is proved under the same name in small letters in proofs/Editions.antt.
use Rattle.std.specs.Prelude.{ℕ, ◌+◌, ◌*◌, ◌%◌, ◌≤◌, ◌<◌, ◌≡◌, ◌↔◌, List, length, Err}
use Rattle.rules.specs.Rules.{Every, Some}
use Rattle.sinit.specs.declared.Chipset.{Chipset}
use Rattle.sinit.specs.declared.header.Edition.{Edition}
use Rattle.sinit.specs.Module.{length_unit, table_size, first, second, editions, edition_of}
use Rattle.sinit.specs.Module.{type, chipset_module, header_len, version, vendor, intel, size, key_size}
use Rattle.sinit.specs.Rules.{module_of}
use Rattle.sinit.specs.Meaning.{Header}

-- the least multiple of a unit that holds so many bytes
pub record LeastMultiple (unit bytes least : ℕ) : Type 0 where
  pub in_units : least % unit ≡ 0
  pub holds : bytes ≤ least
  pub no_less : (n : ℕ) → n % unit ≡ 0 → bytes ≤ n → least ≤ n

-- "the least length is the least multiple of 64 that holds header and information table with no scratch"
abbrev pub HasLeast : Edition → Type 0
HasLeast row = LeastMultiple length_unit (4 * row.header_len + table_size) row.least_length

pub record LeastLengths : Type 0 where
  pub of_each : Every HasLeast editions
  pub of_first : first.least_length ≡ 704
  pub of_second : second.least_length ≡ 960

-- "For rule 6 the header version alone picks the least length, and an unknown version keeps 704."
pub record LeastByVersion : Type 0 where
  pub of_second : (m : List ℕ) → version m ≡ 0x00030000 → (edition_of m).least_length ≡ 960
  pub of_other : (m : List ℕ) → (version m ≡ 0x00030000 → ⊥) → (edition_of m).least_length ≡ 704

-- a shorter module is 6, whatever the rest says
abbrev pub ShortRefused : Type 0
ShortRefused =
    (m : List ℕ) (base capacity : ℕ) (c : Chipset) (os_sinit_data : ℕ)
    → length m < (edition_of m).least_length → module_of m base capacity c os_sinit_data ≡ Err 6

-- the fields of a header that an edition settles are those of its row
pub record OfEdition (m : List ℕ) (row : Edition) : Type 0 where
  pub same_version : version m ≡ row.version
  pub same_header_len : header_len m ≡ row.header_len
  pub same_key_size : key_size m ≡ row.key_size

-- all of one edition, and type, vendor and size right
pub record OfOneEdition (m : List ℕ) : Type 0 where
  pub one_edition : Some (OfEdition m) editions
  pub right_type : type m ≡ chipset_module
  pub right_vendor : vendor m ≡ intel
  pub whole : 4 * size m ≡ length m

-- "A header that mixes the two editions is 7": rule 7 holds of just these headers
abbrev pub OneEditionExactly : Type 0
OneEditionExactly = (m : List ℕ) → Header m ↔ OfOneEdition m
