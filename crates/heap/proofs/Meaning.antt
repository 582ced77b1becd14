-- Each rule's test says what the rule says, so the answer is that of the first rule that fails, and the fields where none does.
use Prim.Native.Nat.{ℕ, ◌<◌}
use mathlib.Core.Path.{◌≡◌, refl, sym}
use mathlib.Core.Logic.{◌↔◌, ◌⊎◌}
use mathlib.Core.Bool.{Bool, true, false, ◌&&◌, ◌||◌}
use mathlib.Core.List.{List}
use native.Mathlib.Omega.{arith}
use borrow.Author.Tests.{eqb-false, ne_eqb}
use lib.Dec.{lit<, leb, eqb}
use lib.ListN.{length}
use Rattle.std.specs.Prelude.{Ok, Err}
use Rattle.range.specs.Range.{highest_end}
use Rattle.range.proofs.Ranges.{ends_exactly}
use Rattle.rules.specs.Rules.{first_failing}
use Rattle.rules.specs.Meaning.{AllSay}
use Rattle.rules.proofs.Tests.{eqb_exactly, leb_exactly, or_exactly, and_exactly, ◌&◌}
use Rattle.rules.proofs.Meaning.{Agree, agrees, all_mean}
use Rattle.rules.proofs.Refusals.{value_by, refused_by, number_by, refused_means}
use Rattle.heap.specs.declared.OsSinitData.{OsSinitData}
use Rattle.heap.specs.Heap.{os_sinit_part, least_part, version_known, low_limit, low_placed, high_placed, pmrs_placed, low_pmr, high_pmr, heap_rules, heap_fields, heap_elements, heap_of}
use Rattle.heap.specs.Meaning.{Supported, PmrsPlaced, HeapHolds, heap_meanings, NumberIsFirst, AcceptedExactly, RefusedExactly}
use Rattle.heap.proofs.Sizes.{parts_exactly}
use Rattle.heap.proofs.Elements.{elements_exactly}

version_exactly : (v : ℕ) → (version_known v ≡ true) ↔ ((v ≡ 6) ⊎ (v ≡ 7))
unfolding version_known
version_exactly v = or_exactly (eqb_exactly v 6) (eqb_exactly v 7)

-- a test of a PMR, where a PMR of size 0 is unused
used_exactly : (size : ℕ) (t : Bool) {P : Type 0} → (t ≡ true) ↔ P → ((eqb size 0 || t) ≡ true) ↔ (0 < size → P)
used_exactly size t {P} x = (
  λ e n. x.0 (rw (ne_eqb size 0 (λ q. omega arith)) at e),
  λ f. by f (eqb size 0) refl,
)
  where
    by : (0 < size → P) → (b : Bool) → eqb size 0 ≡ b → (b || t) ≡ true
    by f true e = refl
    by f false e = x.1 (f (omega (arith, eqb-false size 0 e)))

pmrs_exactly : (o : OsSinitData) → (pmrs_placed o ≡ true) ↔ PmrsPlaced o
unfolding pmrs_placed low_placed high_placed
pmrs_exactly o =
    let low = used_exactly (low_pmr o).size _ (ends_exactly (low_pmr o) low_limit) in
    let high = used_exactly (high_pmr o).size _ (and_exactly (leb_exactly _ _) (ends_exactly (high_pmr o) highest_end)) in
    let both = and_exactly low high in
    (λ e. let p = both.0 e in record { low = p.0; high = p.1 }, λ p. both.1 (p.low, p.high))

supported_exactly : (heap : List ℕ)
    → ((leb least_part (length (os_sinit_part heap)) && version_known (heap_fields heap).version) ≡ true) ↔ Supported heap
supported_exactly heap =
    let both = and_exactly (leb_exactly least_part (length (os_sinit_part heap))) (version_exactly (heap_fields heap).version) in
    (λ e. let p = both.0 e in record { least = p.0; version = p.1 }, λ p. both.1 (p.least, p.version))

module _ (heap : List ℕ) where
  pub agree : Agree (heap_rules heap) (heap_meanings heap)
  agree =
      agrees (lit< tt) (parts_exactly heap)
      & agrees (lit< tt) (supported_exactly heap)
      & agrees (lit< tt) (elements_exactly (heap_elements heap))
      & agrees (lit< tt) (pmrs_exactly (heap_fields heap))
      & tt

  pub holds_exactly : AllSay (heap_meanings heap) ↔ HeapHolds heap
  holds_exactly = (
    λ h. record { parts = h.0; supported = h.1.0; elements = h.1.1.0; pmrs = h.1.1.1.0 },
    λ h. h.parts & h.supported & h.elements & h.pmrs & tt,
  )

  -- no rule fails exactly where every rule holds
  pub all_hold : (first_failing (heap_rules heap) ≡ 0) ↔ HeapHolds heap
  all_hold =
      let say = all_mean (heap_rules heap) (heap_meanings heap) agree in
      (λ e. holds_exactly.0 (say.0 e), λ h. say.1 (holds_exactly.1 h))

  -- where fields are answered, no rule fails, and they are those of OsSinitData; a number is that of the first rule that fails
  pub fields_exactly : (o : OsSinitData) → (heap_of heap ≡ Ok o) ↔ ((first_failing (heap_rules heap) ≡ 0) × (o ≡ heap_fields heap))
  unfolding heap_of
  fields_exactly o =
      let answer = value_by (heap_fields heap) o (first_failing (heap_rules heap)) in
      (λ e. let h = answer.0 e in (h.0, sym h.1), λ h. answer.1 (h.0, sym h.1))

  pub refusal_exactly : (n : ℕ) → (heap_of heap ≡ Err n) ↔ ((0 < n) × (first_failing (heap_rules heap) ≡ n))
  unfolding heap_of
  refusal_exactly n = refused_by (heap_fields heap) (first_failing (heap_rules heap)) n

pub number_is_first : NumberIsFirst
unfolding heap_of
number_is_first heap = number_by (heap_fields heap) (first_failing (heap_rules heap))

pub accepted_exactly : AcceptedExactly
accepted_exactly heap o =
    let answer = fields_exactly heap o in
    let hold = all_hold heap in
    (λ e. let h = answer.0 e in (hold.0 h.0, h.1), λ h. answer.1 (hold.1 h.0, h.1))

pub refused_exactly : RefusedExactly
unfolding heap_of
refused_exactly heap n = refused_means (heap_fields heap) (heap_rules heap) (heap_meanings heap) (agree heap) n
