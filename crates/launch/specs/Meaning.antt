-- What each rule of the check says, as a proposition beside its number, in the order in which the rules are tried: `meanings`. Demand 1 says that the
-- number of the answer is that of the first that is broken; `PermittedMeans`, which proofs/Permitting.antt proves, that all are so where `Permitted` is.
use Rattle.std.specs.Prelude.{ℕ, ◌≤◌, ◌≡◌, ◌↔◌, cond, List, [], ◌∷◌, ◌++◌, eqb}
use Rattle.rules.specs.Meaning.{Meaning, meaning, AllSay}
use Rattle.heap.specs.Meaning.{heap_meanings}
use Rattle.sinit.specs.Meaning as sinit
use Rattle.pages.specs.Meaning.{walk_meanings}
use Rattle.mle.specs.Meaning as mle
use Rattle.policy_grammar.specs.Grammar.{Reading}
use Rattle.policy_record.specs.Record.{policy_type, LIST}
use Rattle.policy_record.specs.Meaning.{record_meanings}
use Rattle.decision.specs.Meaning.{file_meanings, Placed, SomeReading, SomePermits}
use Rattle.launch.specs.Rules.{Input, chipset_of, os, module_data, memory, image, found, policy_file, criteria}
use Rattle.launch.specs.Permitted.{PlatformHolds, N, Permitted}

module _ (i : Input) where
  -- 12 and 13
  abbrev pub size_meanings : List Meaning
  size_meanings = meaning 12 (mle.Size (os i).mle_size) ∷ meaning 13 (N i ≤ i.places) ∷ []

  -- 21 and 22, of the pages that the walk finds
  abbrev pub image_meanings : List Meaning
  image_meanings =
      meaning 21 ((image i).count ≡ N i)
      ∷ meaning 22 (mle.Header i.window (image i) (os i).mle_header_base (os i).mle_size (module_data i).min_mle_header_ver)
      ∷ []

  -- 1 to 22, of what the launch finds
  abbrev pub find_meanings : List Meaning
  find_meanings =
      meaning 1 (PlatformHolds i.window i.heap i.stm i.platform)
      -- 2 to 5
      ∷ (heap_meanings i.heap
      -- 6 to 11
      ++ (sinit.meanings i.sinit i.platform.sinit_base i.platform.acram_capacity (chipset_of i.platform) (os i).version
      ++ (size_meanings
      -- 14 to 20, entry by entry
      ++ (walk_meanings i.window (memory i) (os i).page_table_base ++ image_meanings))))

  -- the policy file where it stands in the window
  abbrev pub file : List ℕ
  file = policy_file i.window (found i)

  -- 26 to 29
  abbrev pub list_meanings : List Meaning
  list_meanings =
      meaning 26 (Placed i.window i.platform.window_base (os i).policy_file_base (os i).policy_file_size)
      -- 27 and 28
      ∷ (file_meanings file i.policy_record
      ++ (meaning 29 (SomeReading file (λ (reading : Reading). SomePermits reading (criteria i.window i.policy_record i.stm (found i)))) ∷ []))

  -- 23 to 29, of what the policy decides
  abbrev pub decide_meanings : List Meaning
  decide_meanings =
      -- 23 to 25
      record_meanings i.policy_record (module_data i).flags (module_data i).acm_version
      -- "Rules 26 to 29 are tried under LIST only."
      ++ cond (eqb (policy_type i.policy_record) LIST) list_meanings []

  abbrev pub meanings : List Meaning
  meanings = find_meanings ++ decide_meanings

-- all of them are so exactly where a launch is permitted. Of the walk `Permitted` speaks as a whole, and of rules 27 to 29 by one reading
abbrev pub PermittedMeans : Type 0
PermittedMeans = (i : Input) → Permitted i ↔ AllSay (meanings i)
