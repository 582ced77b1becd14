-- Each rule of the check agrees in turn with what it says, so that the number is that of the first that is broken, and 0 exactly where all are so.
use Prim.Native.Nat.{ℕ, ◌-◌, ◌≤◌, ◌<◌}
use mathlib.Core.Path.{◌≡◌, refl}
use mathlib.Core.Logic.{◌↔◌}
use mathlib.Core.Bool.{Bool, true, false, cond}
use mathlib.Core.List.{List, [], ◌∷◌, ◌++◌}
use native.Mathlib.Omega.{arith}
use lib.Dec.{lit<, eqb}
use lib.ListN.{length, take, drop, length-take}
use Rattle.field.specs.Number.{Bytes}
use Rattle.field.proofs.Laws.{bytes_drop, bytes_take}
use Rattle.rules.specs.Rules.{Rule, rule, all, first_failing}
use Rattle.rules.specs.Meaning.{Meaning, meaning, AllSay, FirstBroken}
use Rattle.rules.proofs.Tests.{◌&◌, eqb_exactly, leb_exactly}
use Rattle.rules.proofs.Meaning.{Agree, agrees, agree_append, InTurn, in_turn, turn_append, all_in_turn, broken_exactly}
use Rattle.heap.specs.Heap.{heap_rules}
use Rattle.heap.specs.Meaning.{heap_meanings}
use Rattle.heap.proofs.Meaning as heap
use Rattle.sinit.specs.Rules as sinit
use Rattle.sinit.specs.Meaning as sinit-says
use Rattle.sinit.proofs.Meaning as modules
use Rattle.pages.specs.Rules.{walk_rules}
use Rattle.pages.specs.Meaning.{walk_meanings}
use Rattle.pages.proofs.Conditions.{walk_agree}
use Rattle.mle.proofs.Meaning.{size_exactly, header_exactly}
use Rattle.policy_grammar.specs.Grammar.{Reading, Makes}
use Rattle.policy_grammar.specs.Sizes.{largest_file}
use Rattle.policy_record.specs.Record.{policy_type, LIST, record_rules}
use Rattle.decision.specs.Lists.{file_placed, file_of, some_permits}
use Rattle.decision.specs.Answers.{file_rules}
use Rattle.policy_record.specs.Meaning.{record_meanings}
use Rattle.decision.specs.Meaning.{Reads, SomeReading, SomePermits, file_meanings}
use Rattle.decision.proofs.Conditions.{placed_exactly}
use Rattle.policy_record.proofs.RecordAnswers as records
use Rattle.decision.proofs.FileRules as files
use Rattle.launch.specs.Rules.{Input, chipset_of, image_rules, page_rules, os, module_data, memory, image, found, criteria, find_rules, list_rules, decide_rules, rules}
use Rattle.launch.specs.Meaning.{size_meanings, image_meanings, find_meanings, file, list_meanings, decide_meanings, meanings}
use Rattle.launch.proofs.Conditions.{platform_exactly}

module _ (i : Input) where
  abbrev w : List ℕ
  w = i.window

  abbrev r : List ℕ
  r = i.policy_record

  -- RULES 1 TO 22

  abbrev module_rules : List Rule
  module_rules = sinit.rules i.sinit i.platform.sinit_base i.platform.acram_capacity (chipset_of i.platform) (os i).version

  abbrev after_module : List Rule
  after_module = page_rules w (os i) (module_data i) (memory i) i.places

  -- what those groups say
  abbrev pub module_says : List Meaning
  module_says = sinit-says.meanings i.sinit i.platform.sinit_base i.platform.acram_capacity (chipset_of i.platform) (os i).version

  abbrev pub walk_says : List Meaning
  walk_says = walk_meanings w (memory i) (os i).page_table_base

  abbrev pub pages_say : List Meaning
  pages_say = size_meanings i ++ (walk_says ++ image_meanings i)

  pages_agree : Agree after_module pages_say
  pages_agree =
      let walk = walk_rules w (memory i) (os i).page_table_base in
      let last = image_rules w (image i) (os i) (module_data i) in
      agrees (lit< tt) (size_exactly (os i).mle_size)
      & agrees (lit< tt) (leb_exactly _ _)
      & agree_append walk last walk_says (image_meanings i) (walk_agree w (memory i) (os i).page_table_base)
      (agrees (lit< tt) (eqb_exactly _ _) & agrees (lit< tt) (header_exactly w (image i) _ _ _) & tt)

  find_agree : Agree (find_rules i) (find_meanings i)
  find_agree =
      agrees (lit< tt) (platform_exactly w i.heap i.stm i.platform)
      & agree_append (heap_rules i.heap) (module_rules ++ after_module) (heap_meanings i.heap) (module_says ++ pages_say) (heap.agree i.heap)
      (agree_append module_rules after_module module_says pages_say (modules.agree i.sinit _ _ (chipset_of i.platform) (os i).version) pages_agree)

  -- THE FILE, a string of bytes of a size that is read

  module _ (b : Bytes w) where
    abbrev at : ℕ
    at = (os i).policy_file_base - i.platform.window_base

    abbrev placed : Bool
    placed = all (file_placed w i.platform.window_base (os i).policy_file_base (os i).policy_file_size)

    file_bytes_lem : Bytes (file i)
    unfolding file_of
    file_bytes_lem = by placed
      where
        by : (t : Bool) → Bytes (cond t (take (os i).policy_file_size (drop at w)) [])
        by true = bytes_take (os i).policy_file_size (drop at w) (bytes_drop at w b)
        by false = λ k. lit< tt

    file_most : length (file i) ≤ largest_file
    unfolding file_of
    file_most = by placed refl
      where
        by : (t : Bool) → placed ≡ t → length (cond t (take (os i).policy_file_size (drop at w)) []) ≤ largest_file
        by true e = simp length-take (omega (arith, ((placed_exactly _ _ _ _).0 e).most))
        by false e = omega arith

    pub reads : (reading : Reading) → Makes reading (file i) → Reads (file i) reading
    reads = files.reads (file i) file_bytes_lem file_most

    -- RULES 23 TO 29

    pub list_turn : InTurn (list_rules w r i.stm (found i)) (list_meanings i)
    list_turn =
        let k = criteria w i.policy_record i.stm (found i) in
        let last = rule 29 (some_permits (file i) k) ∷ [] in
        let last_says = meaning 29 (SomeReading (file i) (λ (reading : Reading). SomePermits reading k)) ∷ [] in (
          agrees (lit< tt) (placed_exactly _ _ _ _),
          λ h. turn_append (file_rules (file i) r) last (file_meanings (file i) r) last_says (files.file_turn (file i) file_bytes_lem file_most r)
              (λ g. (agrees (lit< tt) (files.some_permits_lem (file i) file_bytes_lem file_most k g.0), λ s. tt)),
        )

    under_list_lem : (t : Bool) → InTurn (cond t (list_rules w r i.stm (found i)) []) (cond t (list_meanings i) [])
    under_list_lem true = list_turn
    under_list_lem false = tt

    decide_turn : InTurn (decide_rules w r i.stm (found i)) (decide_meanings i)
    decide_turn =
        let rs = record_rules r (found i).flags (found i).acm_version in
        let ps = record_meanings r (found i).flags (found i).acm_version in
        turn_append rs (cond (eqb (policy_type r) LIST) (list_rules w r i.stm (found i)) []) ps (cond (eqb (policy_type r) LIST) (list_meanings i) [])
        (in_turn rs ps (records.agree r (found i).flags (found i).acm_version))
        (λ h. under_list_lem (eqb (policy_type r) LIST))

    -- ALL RULES

    turn : InTurn (rules i) (meanings i)
    unfolding rules
    turn =
        turn_append (find_rules i) (decide_rules w r i.stm (found i)) (find_meanings i) (decide_meanings i) (in_turn (find_rules i) (find_meanings i) find_agree)
        (λ h. decide_turn)

    pub all_say : (first_failing (rules i) ≡ 0) ↔ AllSay (meanings i)
    all_say = all_in_turn (rules i) (meanings i) turn

    pub first_broken : (n : ℕ) → 0 < n → (first_failing (rules i) ≡ n) ↔ FirstBroken (meanings i) n
    first_broken = broken_exactly (rules i) (meanings i) turn
