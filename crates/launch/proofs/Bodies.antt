-- `bodies_never_matter`: of the heap only its length and the answer of rules 2 to 5 reach the later rules, and those bodies change neither.
use Prim.Native.Nat.{ℕ}
use mathlib.Core.Path.{◌≡◌, refl, sym, ◌∙◌, ap}
use mathlib.Core.Bool.{Bool, true, false}
use mathlib.Core.List.{List}
use lib.ListN.{length}
use Rattle.rules.specs.Rules.{all}
use Rattle.heap.specs.declared.OsSinitData.{OsSinitData}
use Rattle.heap.specs.Heap.{heap_of}
use Rattle.heap.proofs.Bodies as heap
use Rattle.std.specs.Prelude.{Result, Ok, Err}
use Rattle.sinit.specs.declared.ModuleData.{ModuleData}
use Rattle.sinit.specs.Rules.{module_of}
use Rattle.launch.specs.declared.Found.{Found}
use Rattle.launch.specs.declared.Platform.{Platform}
use Rattle.launch.specs.Rules.{Input, input_of, memory_from, chipset_of, platform_tests}
use Rattle.launch.specs.Answer.{answer_of, places_of}
use Rattle.launch.specs.Inner.{find_stage, outcome_of}
use Rattle.launch.specs.Bodies.{BodiesNeverMatter}
use Rattle.launch.proofs.Finding.{platform_refuses, heap_refuses, module_refuses, module_passes}
use Rattle.launch.proofs.Whole.{find_refuses, find_passes, answer_is, places_are}

module _ (w s r stm : List ℕ) (p : Platform) (n : ℕ) where
  abbrev with : List ℕ → Input
  with h = input_of w h s r stm p n

  module _ (h k : List ℕ) (lengths : length h ≡ length k) (same : heap_of h ≡ heap_of k) where
    same_tests : all (platform_tests w h stm p) ≡ all (platform_tests w k stm p)
    unfolding platform_tests
    same_tests = rw lengths

    abbrev Same : Type 0
    Same = find_stage (with h) ≡ find_stage (with k)

    by_module : all (platform_tests w h stm p) ≡ true → (o : OsSinitData) → heap_of h ≡ Ok o
        → (a : Result ModuleData ℕ) → module_of s p.sinit_base p.acram_capacity (chipset_of p) o.version ≡ a → Same
    by_module t o e (Err m) q =
        sym (module_refuses w h s r stm p n t o e m q) ∙ module_refuses w k s r stm p n (sym same_tests ∙ t) o (sym same ∙ e) m q
    by_module t o e (Ok m) q =
        let mem = memory_from (length h) (length s) p o in
        sym (module_passes w h s r stm p n t o e m q mem refl) ∙ module_passes w k s r stm p n (sym same_tests ∙ t) o (sym same ∙ e) m q mem (rw lengths)

    by_heap : all (platform_tests w h stm p) ≡ true → (a : Result OsSinitData ℕ) → heap_of h ≡ a → Same
    by_heap t (Err m) e = sym (heap_refuses w h s r stm p n t m e) ∙ heap_refuses w k s r stm p n (sym same_tests ∙ t) m (sym same ∙ e)
    by_heap t (Ok o) e = by_module t o e _ refl

    same_find : Same
    same_find = by (all (platform_tests w h stm p)) refl
      where
        by : (t : Bool) → all (platform_tests w h stm p) ≡ t → Same
        by true t = by_heap t (heap_of h) refl
        by false t = sym (platform_refuses w h s r stm p n t) ∙ platform_refuses w k s r stm p n (sym same_tests ∙ t)

    same_outcome : outcome_of (with h) ≡ outcome_of (with k)
    same_outcome = by (find_stage (with h)) refl
      where
        by : (a : Result Found ℕ) → find_stage (with h) ≡ a → outcome_of (with h) ≡ outcome_of (with k)
        by (Err m) e = sym (find_refuses (with h) m e) ∙ find_refuses (with k) m (sym same_find ∙ e)
        by (Ok f) e = sym (find_passes (with h) f e) ∙ find_passes (with k) f (sym same_find ∙ e)

-- the input with another heap
abbrev with_heap : Input → List ℕ → Input
with_heap i h = input_of i.window h i.sinit i.policy_record i.stm i.platform i.places

pub bodies_never_matter : BodiesNeverMatter
bodies_never_matter i j places s =
    let moved : i ≡ with_heap j i.heap =
    λ k. record { window = s.window k; heap = i.heap; sinit = s.sinit k; policy_record = s.policy_record k; stm = s.stm k; platform = s.platform k; places = s.places k } in
    let outcomes = same_outcome j.window j.sinit j.policy_record j.stm j.platform j.places i.heap j.heap s.heap.lengths (heap.bodies_never_matter _ _ s.heap) in (
      ap answer_of moved ∙ sym (answer_is (with_heap j i.heap) _ refl) ∙ answer_is j _ outcomes,
      ap (λ (x : Input). places_of x places) moved ∙ sym (places_are (with_heap j i.heap) places _ refl) ∙ places_are j places _ outcomes,
    )
