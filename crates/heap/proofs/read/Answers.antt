-- `read` meets its contract: it refuses where a part does not fit, and hands the bytes of OsSinitData to `judge`.
use Prim.Native.Nat.{ℕ, ◌+◌, ◌-◌, ◌≤◌}
use mathlib.Core.Path.{◌≡◌, refl, ap, sym, ◌∙◌}
use mathlib.Core.Bool.{Bool, true, false, cond, true≢false, not-eq-not}
use mathlib.Core.List.{List}
use native.Mathlib.Omega.{arith}
use lib.ListN.{length, take, drop}
use Rattle.std.specs.Prelude.{Result, Ok, Err}
use Rattle.std.proofs.lemmas.Result.{err_from_is_err_and}
use Rattle.field.specs.Field.{number_at}
use Rattle.rules.specs.declared.refusal.Refusal.{Refusal}
use Rattle.rules.specs.declared.refusal.Refusal.TheVariants.{HeapParts}
use Rattle.rules.specs.Refusal.{number, numbered}
use Rattle.rules.specs.Rules.{first_failing}
use Rattle.rules.proofs.Refusals.{refusal_at}
use Rattle.heap.specs.declared.OsSinitData.{OsSinitData}
use Rattle.heap.specs.Heap.{bios_data_size, os_mle_data_size, os_sinit_data_size, parts_fit, os_sinit_part, size_fits, part_answer, heap_rules, heap_of}
use Rattle.heap.specs.Inner.{part_end}
use Rattle.heap.specs.Meaning.{PartsFit}
use Rattle.heap.proofs.Sizes.{fits_exactly, parts_exactly}
use Rattle.heap.proofs.read.Goals as goal

-- what the answer for a part says: where it ends, or that it does not fit
record Fits (heap : List ℕ) (at end : ℕ) : Type 0 where
  least : 8 ≤ number_at heap at 8
  inside : end ≤ length heap
  is_end : end ≡ at + number_at heap at 8

abbrev End : Type 0
End = Result ℕ Refusal

module _ (heap : List ℕ) (at : ℕ) where
  size : ℕ
  size = number_at heap at 8

  not_both : {n : ℕ} {x : Refusal} → ◌≡◌ {A = End} (Ok n) (Err x) → ⊥
  not_both e = cc

  same_end : {m n : ℕ} → ◌≡◌ {A = End} (Ok m) (Ok n) → m ≡ n
  same_end e = cc

  same_refusal : {x y : Refusal} → ◌≡◌ {A = End} (Err x) (Err y) → x ≡ y
  same_refusal e = cc

  ended : {end : ℕ} → ◌≡◌ {A = End} (Ok end) (part_end heap at) → Fits heap at end
  ended {end} q = by (size_fits at (number_at heap at 8) (length heap)) refl q
    where
      by : (b : Bool) → size_fits at (number_at heap at 8) (length heap) ≡ b
          → ◌≡◌ {A = End} (Ok end) (cond b (Ok (at + number_at heap at 8)) (Err HeapParts)) → Fits heap at end
      by true f h =
          let p = (fits_exactly _ _ _).0 f in
          let e = same_end h in
          record { least = p.0; inside = omega arith; is_end = e }
      by false f h = absurd (not_both h)

  unfit : {e : Refusal} → ◌≡◌ {A = End} (Err e) (part_end heap at)
      → (PartsFit heap → (8 ≤ number_at heap at 8) × (at + number_at heap at 8 ≤ length heap)) → number e ≡ first_failing (heap_rules heap)
  unfit {e} q h = by (size_fits at (number_at heap at 8) (length heap)) refl q
    where
      by : (b : Bool) → size_fits at (number_at heap at 8) (length heap) ≡ b
          → ◌≡◌ {A = End} (Err e) (cond b (Ok (at + number_at heap at 8)) (Err HeapParts)) → number e ≡ first_failing (heap_rules heap)
      by true f i = absurd (not_both (sym i))
      by false f i =
          let wrong : parts_fit heap ≡ false = not-eq-not.0 (λ p. true≢false (sym ((fits_exactly _ _ _).1 (h ((parts_exactly heap).0 p))) ∙ f)) in
          ap number (same_refusal i) ∙ rw wrong

module _ (heap : List ℕ) (b : ℕ) (first : Fits heap 0 b) where
  is_b : bios_data_size heap ≡ b
  unfolding bios_data_size
  is_b = omega (arith, first.is_end)

  m_size : os_mle_data_size heap ≡ number_at heap b 8
  unfolding os_mle_data_size
  m_size = rw is_b

  module _ (m : ℕ) (second : Fits heap b m) where
    is_m : bios_data_size heap + os_mle_data_size heap ≡ m
    is_m = rw (is_b, m_size) (sym second.is_end)

    z_size : os_sinit_data_size heap ≡ number_at heap m 8
    unfolding os_sinit_data_size
    z_size = rw is_m

    module _ (z : ℕ) (third : Fits heap m z) where
      judged : (r : Result OsSinitData Refusal) → numbered r ≡ part_answer (take (z - m) (drop m heap)) → numbered r ≡ heap_of heap
      unfolding heap_of part_answer os_sinit_part
      judged r e =
          let size : z - m ≡ os_sinit_data_size heap = omega (arith, z_size, third.is_end) in
          rw ((parts_exactly heap).1 (omega (arith, is_b, m_size, is_m, z_size, first, second, third)), is_m) (rw size at e)

pub returns-in_err-os_mle : goal.returns-in_err-os_mle
unfolding heap_of bios_data_size
returns-in_err-os_mle c =
    refusal_at _ _ (err_from_is_err_and c.from_residual.result c.from_residual.ensures.1) (unfit _ _ c.in_err-os_mle.ensures (λ p. omega arith))

pub returns-in_err-os_sinit : goal.returns-in_err-os_sinit
unfolding heap_of
returns-in_err-os_sinit c =
    let from = c.from_residual-in_err-os_sinit in
    let first = ended _ _ c.in_ok-os_mle.ensures in
    refusal_at _ _ (err_from_is_err_and from.result from.ensures.1)
    (unfit _ _ c.in_err-os_sinit.ensures (λ p. omega (arith, is_b _ _ first, m_size _ _ first)))

pub returns-in_err-end : goal.returns-in_err-end
unfolding heap_of
returns-in_err-end c =
    let from = c.from_residual-in_err-end in
    let first = ended _ _ c.in_ok-os_mle.ensures in
    let second = ended _ _ c.in_ok-os_sinit.ensures in
    refusal_at _ _ (err_from_is_err_and from.result from.ensures.1)
    (unfit _ _ c.in_err-end.ensures (λ p. omega (arith, is_m _ _ first _ second, z_size _ _ first _ second)))

pub slice_bounds-judge-end : goal.slice_bounds-judge-end
slice_bounds-judge-end c = omega (arith, ended _ _ c.in_ok-end.ensures)

pub returns : goal.returns
returns c =
    judged _ _ (ended _ _ c.in_ok-os_mle.ensures) _ (ended _ _ c.in_ok-os_sinit.ensures) _ (ended _ _ c.in_ok-end.ensures) _ c.judge.ensures
