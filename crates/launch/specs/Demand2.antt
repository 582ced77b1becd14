-- Demand 2, as one statement: `Demand2`, which proofs/Demand2.antt proves as `demand2`. A launch is permitted exactly where every rule holds; what
-- a permission gives is said of the page list that the caller gets; and no list permits where the number is 29.
use Rattle.std.specs.Prelude.{ℕ, ◌+◌, ◌-◌, ◌<◌, ◌≡◌, ◌↔◌, ◌≢◌, length, take, drop, get_or}
use mathlib.Core.List.{List, flat_map}
use Rattle.range.specs.declared.Range.{Range}
use Rattle.range.specs.Range.{page_size}
use Rattle.field.specs.Number.{Bytes}
use Rattle.sha256.specs.Message.{sha256}
use Rattle.rules.specs.Rules.{Some}
use Rattle.pages.specs.declared.Kind.TheVariants.{Page}
use Rattle.pages.specs.Entry.{address_of}
use Rattle.pages.specs.Memory.{page_of, window_of, regions}
use Rattle.pages.specs.Meaning.{Within, Apart, entry, Present, TablesProtected}
use Rattle.policy_grammar.specs.Grammar.{Reading, Makes}
use Rattle.policy_record.specs.Record.{policy_type, LIST, ANY, lcp_hash_alg_mask, sha256_bit}
use Rattle.policy_record.specs.Meaning.{Bit}
use Rattle.answer.specs.Answer.{no_list}
use Rattle.decision.specs.Answers.{criteria_by}
use Rattle.decision.specs.Meaning.{SomePermits, Lowest}
use Rattle.launch.specs.Rules.{Input, os, module_data, memory, found, policy_file, criteria}
use Rattle.launch.specs.Answer.{answer_of, places_of}
use Rattle.launch.specs.Permitted.{N, Permitted}

module _ (i : Input) (places : List ℕ) where
  -- the address in a place of the page list, when the check has answered
  abbrev pub page : ℕ → ℕ
  page k = get_or (places_of i places) k 0

  -- the 4,096 bytes of the window at a physical address
  abbrev pub memory_at : ℕ → List ℕ
  memory_at a = take page_size (drop (a - i.platform.window_base) i.window)

  -- the list that is answered is the lowest that permits, of the reading that makes the file
  pub record LowestPermits : Type 0 where
    pub reading : Reading
    pub grammar : Makes reading (policy_file i.window (found i))
    pub lowest : Lowest reading (criteria_by (answer_of i).digest (module_data i).acm_version i.stm i.policy_record) (answer_of i).list

  pub record Permission : Type 0 where
    pub count : (answer_of i).pages ≡ N i
    -- the first N places hold the pages in linear order: each is found through the tables; the other places are as they were
    pub first : ℕ
    pub present : (k : ℕ) → k < N i → Present i.window (memory i) (os i).page_table_base Page (first + k)
    pub linear : (k : ℕ) → k < N i → page k ≡ address_of (entry i.window (memory i) (os i).page_table_base Page (first + k))
    pub rest : drop (N i) (places_of i places) ≡ drop (N i) places
    -- they ascend strictly and do not overlap
    pub ascend : (j k : ℕ) → j < k → k < N i → page j < page k
    pub apart : (j k : ℕ) → j < N i → k < N i → j ≢ k → Apart (page_of (page j)) (page_of (page k))
    -- each lies in the window, and one of the regions that are protected against DMA holds them all
    pub inside : (k : ℕ) → k < N i → Within (page_of (page k)) (window_of i.window i.platform.window_base)
    pub protected : Some (λ (r : Range). (k : ℕ) → k < N i → Within (page_of (page k)) r) (regions (memory i))
    -- under ANY and under LIST alike: every table page, the base too, lies in one of these regions, and LcpHashAlgMask has the bit for SHA-256
    pub tables : TablesProtected i.window (memory i) (os i).page_table_base
    pub mask : Bit sha256_bit (lcp_hash_alg_mask i.policy_record)
    -- the digest is that of their bytes, joined
    pub digest : (answer_of i).digest ≡ sha256 (flat_map memory_at (take (N i) (places_of i places)))
    -- "Under ANY the list is 255"; under LIST it permits this digest, and no lower one does
    pub any_list : policy_type i.policy_record ≡ ANY → (answer_of i).list ≡ no_list
    pub lowest : policy_type i.policy_record ≡ LIST → LowestPermits
    -- "the place, 0 for all other numbers"
    pub place : (answer_of i).place ≡ 0

  -- no list of the reading that makes the file permits the pages
  pub record NoList : Type 0 where
    pub under_list : policy_type i.policy_record ≡ LIST
    pub reading : Reading
    pub grammar : Makes reading (policy_file i.window (found i))
    pub none : SomePermits reading (criteria i.window i.policy_record i.stm (found i)) → ⊥

  pub record PermittedExactly : Type 0 where
    pub exactly : ((answer_of i).number ≡ 0) ↔ Permitted i
    pub gives : (answer_of i).number ≡ 0 → Permission
    pub no_list : (answer_of i).number ≡ 29 → NoList

-- the window is a string of bytes, and the page list has as many places as the check was told
abbrev pub Demand2 : Type 0
Demand2 = (i : Input) (places : List ℕ) → Bytes i.window → length places ≡ i.places → PermittedExactly i places
