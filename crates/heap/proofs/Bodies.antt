-- Heaps that differ only in bytes that are ignored have the same answer: each byte that a rule reads is none of these.
use Prim.Native.Nat.{ℕ, zero, suc, ◌+◌, ◌≤◌, ◌<◌}
use mathlib.Core.Path.{◌≡◌, refl, sym, ◌∙◌}
use mathlib.Core.Logic.{⊎_elim}
use mathlib.Core.Bool.{Bool, true, false}
use mathlib.Core.List.{List}
use native.Mathlib.Decide.{le_ind}
use native.Mathlib.Omega.{arith}
use lib.Dec.{lit≤, eqb}
use lib.ListN.{length, get_or, take, drop, length-take, length-drop}
use Rattle.field.specs.Field.{number_at}
use Rattle.rules.specs.Rules.{answer_for}
use Rattle.heap.specs.Heap.{bios_data_size, os_mle_data_size, os_sinit_data_at, os_sinit_data_size, parts_fit, os_sinit_part, after_size, fields_of, type_at, size_at, element_at, ends_within, elements_end, heap_fields, heap_elements, heap_of}
use Rattle.heap.specs.Meaning.{PartsFit, place_of}
use Rattle.heap.specs.Bodies.{element_place, Reached, Ignored, bios_data, os_mle_data, skipped, after_end, after_parts, SameElsewhere, BodiesNeverMatter}
use Rattle.field.proofs.Agreeing.{lt_or_le, drop_lengths, drop_same, take_same, field_same}
use Rattle.heap.proofs.Sizes.{parts_exactly}
use Rattle.heap.proofs.Elements.{and_same, cond_same, one_more}

module _ (s t : List ℕ) (l : length s ≡ length t) where
  module _ (h : (i : ℕ) → i < 92 → get_or s i 0 ≡ get_or t i 0) where
    same : (at width : ℕ) → at + width ≤ 92 → number_at s at width ≡ number_at t at width
    same at width p = field_same s t at width l (λ i a b. h i (omega arith))

    fields_same : fields_of s ≡ fields_of t
    unfolding fields_of
    fields_same =
        rw (
          same 0 4 (lit≤ tt),
          same 4 4 (lit≤ tt),
          same 8 8 (lit≤ tt),
          same 16 8 (lit≤ tt),
          same 24 8 (lit≤ tt),
          same 32 8 (lit≤ tt),
          same 40 8 (lit≤ tt),
          same 48 8 (lit≤ tt),
          same 56 8 (lit≤ tt),
          same 64 8 (lit≤ tt),
          same 72 8 (lit≤ tt),
          same 80 4 (lit≤ tt),
          same 84 8 (lit≤ tt),
        )

  -- the same types and sizes, as far as elements are reached
  module _ (heads : (k : ℕ) → Reached s k → (i : ℕ) → place_of s k ≤ i → i < place_of s k + 8 → get_or s i 0 ≡ get_or t i 0) where
    ends_same : (n k : ℕ) → Reached s k → ends_within n s (place_of s k) ≡ ends_within n t (place_of s k)
    unfolding ends_within place_of
    ends_same zero k r = refl
    ends_same (suc n) k r =
        let at = place_of s k in
        let kind : type_at s at ≡ type_at t at = field_same s t at 4 l (λ i p q. heads k r i (omega arith) (omega arith)) in
        let size : size_at s at ≡ size_at t at = field_same s t (at + 4) 4 l (λ i p q. heads k r i (omega arith) (omega arith)) in
        rw (← kind, ← size, ← l) (and_same (element_at s at) _ _ (λ e. cond_same (eqb (type_at s at) 0) (eqb (size_at s at) 8) _ _ (λ z.
        ends_same n (suc k) (one_more s k r e z))))

-- an element begins where an earlier one begins, or after it
rising : (s : List ℕ) (j k : ℕ) → j ≤ k → place_of s j ≤ place_of s k
unfolding place_of
rising s j = le_ind (λ (k : ℕ). place_of s j ≤ place_of s k) (omega arith) (λ m p h. omega arith)

-- a byte that is in the body of neither BiosData nor OsMleData and, where the parts fit, in OsSinitData at the latest
record Before (heap : List ℕ) (i : ℕ) : Type 0 where
  after_bios : 8 ≤ i → bios_data_size heap ≤ i
  after_mle : bios_data_size heap + 8 ≤ i → os_sinit_data_at heap ≤ i
  in_part : PartsFit heap → i < os_sinit_data_at heap + os_sinit_data_size heap

module _ (s t : List ℕ) (other : SameElsewhere s t) where
  read : (i : ℕ) → Before s i
      → ((k : ℕ) → Reached (heap_elements s) (suc k) → element_place s k + 8 ≤ i → element_place s (suc k) ≤ i)
      → ((k : ℕ) → Reached (heap_elements s) k → type_at (heap_elements s) (place_of (heap_elements s) k) ≡ 0 → i < element_place s k + 8)
      → get_or s i 0 ≡ get_or t i 0
  read i b skips ends = other.bytes i none
    where
      none : Ignored s i → ⊥
      none (bios_data p q) = omega (arith, b.after_bios (omega arith))
      none (os_mle_data p q) = omega (arith, b.after_mle (omega arith))
      none (skipped f k r p q) = omega (arith, skips k r (omega arith))
      none (after_end f k r z p) = omega (arith, ends k r z)
      none (after_parts f p) = omega (arith, b.in_part f)

  -- a byte before the elements
  read_early : (i : ℕ) → Before s i × (i < os_sinit_data_at s + 100) → get_or s i 0 ≡ get_or t i 0
  read_early i b = read i b.0 (λ k r p. omega arith) (λ k r z. omega arith)

  early_same : (at width : ℕ) → ((i : ℕ) → at ≤ i → i < at + width → Before s i × (i < os_sinit_data_at s + 100))
      → number_at s at width ≡ number_at t at width
  early_same at width h = field_same s t at width other.lengths (λ i p q. read_early i (h i p q))

  bios_same : bios_data_size s ≡ bios_data_size t
  unfolding bios_data_size
  bios_same = early_same 0 8 (λ i p q. omega arith)

  mle_same : os_mle_data_size s ≡ os_mle_data_size t
  unfolding os_mle_data_size
  mle_same = rw (← bios_same) (early_same (bios_data_size s) 8 (λ i p q. omega arith))

  size_same : os_sinit_data_size s ≡ os_sinit_data_size t
  unfolding os_sinit_data_size
  size_same = rw (← bios_same, ← mle_same) (early_same (os_sinit_data_at s) 8 (λ i p q. omega arith))

  parts_same : parts_fit s ≡ parts_fit t
  unfolding parts_fit
  parts_same = rw (bios_same, mle_same, size_same, other.lengths)

  part_same : os_sinit_part t ≡ take (os_sinit_data_size s) (drop (os_sinit_data_at s) t)
  unfolding os_sinit_part
  part_same = rw (bios_same, mle_same, size_same)

  part_lengths : length (os_sinit_part s) ≡ length (os_sinit_part t)
  unfolding os_sinit_part
  part_lengths = rw part_same (simp (length-take, length-drop, other.lengths))

  after_lengths : length (after_size (os_sinit_part s)) ≡ length (after_size (os_sinit_part t))
  after_lengths = drop_lengths 8 (os_sinit_part s) (os_sinit_part t) part_lengths

  after_same : (i : ℕ) → (8 + i < os_sinit_data_size s → get_or s (os_sinit_data_at s + (8 + i)) 0 ≡ get_or t (os_sinit_data_at s + (8 + i)) 0)
      → get_or (after_size (os_sinit_part s)) i 0 ≡ get_or (after_size (os_sinit_part t)) i 0
  unfolding os_sinit_part
  after_same i h =
      let at = os_sinit_data_at s in
      drop_same 8 (os_sinit_part s) (os_sinit_part t) i
      (rw part_same (take_same (os_sinit_data_size s) (drop at s) (drop at t) (8 + i) (λ p. drop_same at s t (8 + i) (h p))))

  -- where the parts fit
  module _ (f : PartsFit s) where
    fields_read : heap_fields s ≡ heap_fields t
    fields_read =
        fields_same (after_size (os_sinit_part s)) (after_size (os_sinit_part t)) after_lengths
        (λ i h. after_same i (λ p. read_early (os_sinit_data_at s + (8 + i)) (omega arith)))

    heads_read : (k : ℕ) → Reached (heap_elements s) k → (i : ℕ) → place_of (heap_elements s) k ≤ i → i < place_of (heap_elements s) k + 8
        → get_or (heap_elements s) i 0 ≡ get_or (heap_elements t) i 0
    heads_read k r i l h =
        drop_same 92 (after_size (os_sinit_part s)) (after_size (os_sinit_part t)) i
        (after_same (92 + i) (λ p. read (os_sinit_data_at s + (8 + (92 + i))) (omega arith) skips ends))
      where
        skips : (j : ℕ) → Reached (heap_elements s) (suc j) → element_place s j + 8 ≤ os_sinit_data_at s + (8 + (92 + i))
            → element_place s (suc j) ≤ os_sinit_data_at s + (8 + (92 + i))
        skips j q p =
            ⊎_elim (λ lt. omega (arith, rising (heap_elements s) (suc j) k lt)) (λ ge. omega (arith, rising (heap_elements s) k j ge)) (lt_or_le j k)

        ends : (j : ℕ) → Reached (heap_elements s) j → type_at (heap_elements s) (place_of (heap_elements s) j) ≡ 0
            → os_sinit_data_at s + (8 + (92 + i)) < element_place s j + 8
        ends j q z = ⊎_elim (λ lt. absurd ((r j lt).other z)) (λ ge. omega (arith, rising (heap_elements s) k j ge)) (lt_or_le j k)

    elements_read : elements_end (heap_elements s) ≡ elements_end (heap_elements t)
    unfolding place_of
    elements_read =
        let l = drop_lengths 92 (after_size (os_sinit_part s)) (after_size (os_sinit_part t)) after_lengths in
        rw (← l) (ends_same (heap_elements s) (heap_elements t) l heads_read (length (heap_elements s)) 0 (λ j p. absurd (omega arith)))

    fit_same : heap_of s ≡ heap_of t
    unfolding heap_of
    fit_same = rw (parts_same, part_lengths, fields_read, elements_read)

  unfit_same : parts_fit s ≡ false → heap_of s ≡ heap_of t
  unfolding heap_of answer_for
  unfit_same e = rw (sym parts_same ∙ e, e)

pub bodies_never_matter : BodiesNeverMatter
bodies_never_matter s t other = by (parts_fit s) refl
  where
    by : (b : Bool) → parts_fit s ≡ b → heap_of s ≡ heap_of t
    by true e = fit_same s t other ((parts_exactly s).0 e)
    by false e = unfit_same s t other e
