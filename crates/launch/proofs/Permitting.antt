-- `permitted_means`: a launch is permitted exactly where every rule says what is so. The walk as a whole is the walk entry by entry, and the pages that it
-- finds are then N pages from a linear page on.
use Prim.Native.Nat.{ℕ, ◌≤◌}
use mathlib.Core.Path.{◌≡◌, refl, sym, ◌∙◌, subst}
use mathlib.Core.Logic.{◌↔◌}
use mathlib.Core.Bool.{Bool, true, false, cond, true≢false}
use mathlib.Core.List.{List, [], ◌++◌}
use borrow.Author.Tests.{eqb-true, eq-eqb}
use lib.Dec.{eqb}
use Rattle.rules.specs.Rules.{first_failing}
use Rattle.rules.specs.Meaning.{Meaning, AllSay}
use Rattle.rules.proofs.Tests.{◌&◌}
use Rattle.rules.proofs.Meaning.{say_append, all_mean}
use Rattle.heap.specs.Meaning.{heap_meanings, HeapHolds}
use Rattle.heap.proofs.Meaning as heap
use Rattle.sinit.specs.Meaning.{ModuleHolds}
use Rattle.sinit.proofs.Meaning as modules
use Rattle.pages.specs.Rules.{walk_rules, end_state, walk_of}
use Rattle.pages.specs.Meaning.{Walks}
use Rattle.pages.proofs.Conditions.{walk_agree}
use Rattle.pages.proofs.Meaning.{mapped_answer, mapped_exactly}
use Rattle.mle.specs.declared.Image.{Image}
use Rattle.mle.specs.Meaning as mle
use Rattle.policy_grammar.specs.Grammar.{Reading}
use Rattle.policy_grammar.proofs.Decoding.{unique}
use Rattle.policy_record.specs.Record.{policy_type, LIST}
use Rattle.policy_record.specs.Meaning as records
use Rattle.decision.specs.Meaning as decision
use Rattle.launch.specs.declared.Platform.{Platform}
use Rattle.launch.specs.Rules.{Input, chipset_of, found_of, os, module_data, memory, image, found, criteria}
use Rattle.launch.specs.Permitted.{PlatformHolds, ListPermits, N, pages_from, Permitted}
use Rattle.launch.specs.Meaning.{image_meanings, find_meanings, file, list_meanings, decide_meanings, meanings, PermittedMeans}
use Rattle.launch.proofs.Meaning.{module_says, walk_says, pages_say}

module _ (i : Input) where
  abbrev w : List ℕ
  w = i.window

  abbrev r : List ℕ
  r = i.policy_record

  abbrev p : Platform
  p = i.platform

  abbrev Header : Image → Type 0
  Header im = mle.Header w im (os i).mle_header_base (os i).mle_size (module_data i).min_mle_header_ver

  -- WHAT THE RULES SAY, group by group

  pub record Said : Type 0 where
    pub platform : PlatformHolds w i.heap i.stm p
    pub heap : HeapHolds i.heap
    pub sinit : ModuleHolds i.sinit p.sinit_base p.acram_capacity (chipset_of p) (os i).version
    pub size : mle.Size (os i).mle_size
    pub room : N i ≤ i.places
    pub walk : AllSay (walk_says i)
    pub counted : (image i).count ≡ N i
    pub header : Header (image i)
    pub policy_record : records.Record r
    pub worthy_or_allowed : records.WorthyOrAllowed (module_data i).flags r
    pub reached : records.Reached (module_data i).acm_version r
    pub lists : policy_type r ≡ LIST → AllSay (list_meanings i)

  abbrev lists_say : Bool → List Meaning
  lists_say t = cond t (list_meanings i) []

  -- under LIST only
  under_list_lem : (t : Bool) → eqb (policy_type r) LIST ≡ t → AllSay (lists_say t) ↔ (policy_type r ≡ LIST → AllSay (list_meanings i))
  under_list_lem true e = (λ h l. h, λ h. h (eqb-true (policy_type r) LIST e))
  under_list_lem false e = (λ h l. absurd (true≢false (sym (eq-eqb (policy_type r) LIST l) ∙ e)), λ h. tt)

  pub said : AllSay (meanings i) ↔ Said
  said =
      let stages = say_append (find_meanings i) (decide_meanings i) in
      let after-heap = say_append (heap_meanings i.heap) (module_says i ++ pages_say i) in
      let after-module = say_append (module_says i) (pages_say i) in
      let after-walk = say_append (walk_says i) (image_meanings i) in
      let heap-holds = heap.holds_exactly i.heap in
      let module-holds = modules.holds_exactly i.sinit p.sinit_base p.acram_capacity (chipset_of p) (os i).version in
      let lists = under_list_lem (eqb (policy_type r) LIST) refl in (
        λ h.
            let early = (stages.0 h).0 in
            let late = (stages.0 h).1 in
            let from2 = after-heap.0 early.1 in
            let from6 = after-module.0 from2.1 in
            let from14 = after-walk.0 from6.1.1.1 in
            record {
              platform = early.0;
              heap = heap-holds.0 from2.0;
              sinit = module-holds.0 from6.0;
              size = from6.1.0;
              room = from6.1.1.0;
              walk = from14.0;
              counted = from14.1.0;
              header = from14.1.1.0;
              policy_record = late.0;
              worthy_or_allowed = late.1.0;
              reached = late.1.1.0;
              lists = lists.0 late.1.1.1;
            },
        λ s.
            let from14 = after-walk.1 (s.walk, (s.counted & s.header & tt)) in
            let from6 = after-module.1 (module-holds.1 s.sinit, (s.size & s.room & from14)) in
            stages.1 (
              (s.platform, after-heap.1 (heap-holds.1 s.heap, from6)),
              (s.policy_record & s.worthy_or_allowed & s.reached & lists.1 s.lists),
            ),
      )

  -- THE WALK AS A WHOLE

  walk_all : (first_failing (walk_rules w (memory i) (os i).page_table_base) ≡ 0) ↔ AllSay (walk_says i)
  walk_all = all_mean (walk_rules w (memory i) (os i).page_table_base) (walk_says i) (walk_agree w (memory i) (os i).page_table_base)

  walks_exactly : (f n : ℕ) → Walks w (memory i) (os i).page_table_base f n ↔ (AllSay (walk_says i) × (((image i).first ≡ f) × ((image i).count ≡ n)))
  unfolding walk_of
  walks_exactly f n =
      let t = (os i).page_table_base in
      let mapped = mapped_exactly w (memory i) t f n in
      let answer = mapped_answer (first_failing (walk_rules w (memory i) t)) (end_state w (memory i) t) f n in (
        λ h. let a = answer.0 (mapped.1 h) in (walk_all.0 a.0, a.1),
        λ h. mapped.0 (answer.1 (walk_all.1 h.0, h.1)),
      )

  -- the pages that the walk finds, where they are N pages from a linear page on
  image_is : (f : ℕ) → (image i).first ≡ f → (image i).count ≡ N i → image i ≡ pages_from i f
  image_is f e c k = record { window = p.window_base; tables = (os i).page_table_base; first = e k; count = c k }

  pub walks : Said → Walks w (memory i) (os i).page_table_base (image i).first (N i)
  walks s = (walks_exactly (image i).first (N i)).1 (s.walk, (refl, s.counted))

  -- THE LISTS OF ONE READING

  list_permits : AllSay (list_meanings i) ↔ ListPermits w r i.stm (found i)
  list_permits = (
    λ h.
        let (reading, (makes, hash)) = h.1.1.0 in
        let (other, (made, permits)) = h.1.1.1.0 in
        record {
          placed = h.0;
          reading = reading;
          grammar = makes;
          hash = hash;
          permits = subst (λ (x : Reading). decision.SomePermits x (criteria w i.policy_record i.stm (found i))) (unique other reading (file i) made makes) permits;
        },
    λ l.
        l.placed & (l.reading, l.grammar) & (l.reading, (l.grammar, l.hash)) & (l.reading, (l.grammar, l.permits)) & tt,
  )

  -- ALL RULES

  abbrev Lists : Image → Type 0
  Lists im = policy_type r ≡ LIST → ListPermits w r i.stm (found_of im (os i) (module_data i))

  holds : Said → Permitted i
  holds s =
      let same = image_is (image i).first refl s.counted in
      record {
        platform = s.platform;
        parts = s.heap.parts;
        supported = s.heap.supported;
        elements = s.heap.elements;
        pmrs = s.heap.pmrs;
        place = s.sinit.place;
        header = s.sinit.header;
        gdt = s.sinit.gdt;
        entry = s.sinit.entry;
        selector = s.sinit.selector;
        table = s.sinit.table;
        chipsets = s.sinit.list;
        listed = s.sinit.listed;
        version = s.sinit.supported;
        size = s.size;
        room = s.room;
        first = (image i).first;
        walk = walks s;
        mle_header = subst Header same s.header;
        policy_record = s.policy_record;
        worthy_or_allowed = s.worthy_or_allowed;
        reached = s.reached;
        lists = subst Lists same (λ l. list_permits.0 (s.lists l));
      }

  permits : Permitted i → Said
  permits h =
      let walk = (walks_exactly h.first (N i)).0 h.walk in
      let same = sym (image_is h.first walk.1.0 walk.1.1) in
      let lists : Lists (image i) = subst Lists same h.lists in
      record {
        platform = h.platform;
        heap = record { parts = h.parts; supported = h.supported; elements = h.elements; pmrs = h.pmrs };
        sinit =
            record {
              place = h.place;
              header = h.header;
              gdt = h.gdt;
              entry = h.entry;
              selector = h.selector;
              table = h.table;
              list = h.chipsets;
              listed = h.listed;
              supported = h.version;
            };
        size = h.size;
        room = h.room;
        walk = walk.0;
        counted = walk.1.1;
        header = subst Header same h.mle_header;
        policy_record = h.policy_record;
        worthy_or_allowed = h.worthy_or_allowed;
        reached = h.reached;
        lists = λ l. list_permits.1 (lists l);
      }

pub permitted_means : PermittedMeans
permitted_means i = (λ h. (said i).1 (permits i h), λ h. holds i ((said i).0 h))
