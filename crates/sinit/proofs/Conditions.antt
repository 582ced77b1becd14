-- The tests of each rule say what its propositions say.
use Prim.Native.Nat.{ℕ, zero, suc, ◌+◌, ◌*◌, ◌%◌, ◌≤◌, ◌<◌}
use mathlib.Core.Path.{◌≡◌, refl}
use mathlib.Core.Logic.{◌↔◌}
use mathlib.Core.Bool.{true, cond, not}
use mathlib.Core.List.{List}
use native.Mathlib.Omega.{arith}
use borrow.Author.Tests.{leb-true, le-leb, ltb-true, lt-ltb, eqb-true, eq-eqb, ne_eqb, eqb-false, not-true}
use lib.Bits.{bit_and}
use lib.Dec.{eqb}
use lib.ListN.{length}
use Rattle.field.proofs.Laws.{marked_at_lem}
use Rattle.range.proofs.Ranges.{inside_bounds, ends_exactly}
use Rattle.sinit.specs.declared.Chipset.{Chipset}
use Rattle.sinit.specs.Module.{chipset_list, count_size, count, entry_size, entry_at}
use Rattle.rules.specs.Rules.{all}
use Rattle.sinit.specs.Rules.{inside, place, header, gdt, entry, selector, table, list, revision_matches, match, listed}
use Rattle.sinit.specs.Meaning.{Place, Header, Gdt, Entry, Selector, Table, ChipsetList, Matches, Listed}
use Rattle.rules.proofs.Tests.{◌&◌, each}
use Rattle.sinit.proofs.Below.{found, finds}

pub inside_exactly : (m : List ℕ) (at n : ℕ) → (inside m at n ≡ true) ↔ (at + n ≤ length m)
unfolding inside
inside_exactly m at n = (
  λ e. omega (arith, (inside_bounds _ _).0 e),
  λ h. (inside_bounds _ _).1 (omega arith, omega arith),
)

module _ (m : List ℕ) where
  pub place_exactly : (base capacity : ℕ) → (all (place m base capacity) ≡ true) ↔ Place m base capacity
  unfolding place
  place_exactly base capacity = (
    λ e.
        let t = (each _).0 e in
        record {
          on_page = eqb-true _ _ t.0;
          in_units = eqb-true _ _ t.1.0;
          least = leb-true _ _ t.1.1.0;
          most = leb-true _ _ t.1.1.1.0;
          end = (ends_exactly _ _).0 t.1.1.1.1.0;
        },
    λ h. (each _).1
        (eq-eqb _ _ h.on_page
        & eq-eqb _ _ h.in_units
        & le-leb _ _ h.least
        & le-leb _ _ h.most
        & (ends_exactly _ _).1 h.end
        & tt),
  )

  pub header_exactly : (all (header m) ≡ true) ↔ Header m
  unfolding header
  header_exactly = (
    λ e.
        let t = (each _).0 e in
        record {
          right_type = eqb-true _ _ t.0;
          header_words = eqb-true _ _ t.1.0;
          right_version = eqb-true _ _ t.1.1.0;
          right_vendor = eqb-true _ _ t.1.1.1.0;
          whole = eqb-true _ _ t.1.1.1.1.0;
          key_words = eqb-true _ _ t.1.1.1.1.1.0;
        },
    λ h. (each _).1
        (eq-eqb _ _ h.right_type
        & eq-eqb _ _ h.header_words
        & eq-eqb _ _ h.right_version
        & eq-eqb _ _ h.right_vendor
        & eq-eqb _ _ h.whole
        & eq-eqb _ _ h.key_words
        & tt),
  )

  pub gdt_exactly : (all (gdt m) ≡ true) ↔ Gdt m
  unfolding gdt
  gdt_exactly = (
    λ e.
        let t = (each _).0 e in
        record { behind = leb-true _ _ t.0; inside = ltb-true _ _ t.1.0; limited = ltb-true _ _ t.1.1.0 },
    λ h. (each _).1 (le-leb _ _ h.behind & lt-ltb _ _ h.inside & lt-ltb _ _ h.limited & tt),
  )

  pub entry_exactly : (all (entry m) ≡ true) ↔ Entry m
  unfolding entry
  entry_exactly = (
    λ e. let t = (each _).0 e in record { behind = leb-true _ _ t.0; inside = ltb-true _ _ t.1.0 },
    λ h. (each _).1 (le-leb _ _ h.behind & lt-ltb _ _ h.inside & tt),
  )

  pub selector_exactly : (all (selector m) ≡ true) ↔ Selector m
  unfolding selector
  selector_exactly = (
    λ e.
        let t = (each _).0 e in
        record { not_null = leb-true _ _ t.0; in_units = eqb-true _ _ t.1.0; in_gdt = leb-true _ _ t.1.1.0 },
    λ h. (each _).1 (le-leb _ _ h.not_null & eq-eqb _ _ h.in_units & le-leb _ _ h.in_gdt & tt),
  )

  pub table_exactly : (all (table m) ≡ true) ↔ Table m
  unfolding table
  table_exactly = (
    λ e.
        let t = (each _).0 e in
        record {
          inside = (inside_exactly _ _ _).0 t.0;
          marked = ((marked_at_lem _ _ _).0 t.1.0).1;
          right_type = eqb-true _ _ t.1.1.0;
          least = leb-true _ _ t.1.1.1.0;
        },
    λ h. (each _).1
        ((inside_exactly _ _ _).1 h.inside
        & (marked_at_lem _ _ _).1 (omega arith, h.marked)
        & eq-eqb _ _ h.right_type
        & le-leb _ _ h.least
        & tt),
  )

  -- the counted entries are inside where the last is
  pub list_exactly : (all (list m) ≡ true) ↔ ChipsetList m
  unfolding list
  list_exactly = (
    λ e.
        let t = (each _).0 e in
        let last = (inside_exactly _ _ _).0 t.1.1.0 in
        record { inside = (inside_exactly _ _ _).0 t.0; most = leb-true _ _ t.1.0; entries = λ i h. omega arith },
    λ h. (each _).1
        ((inside_exactly _ _ _).1 h.inside
        & le-leb _ _ h.most
        & (inside_exactly _ _ _).1 (last h (count m) refl)
        & tt),
  )
    where
      last : ChipsetList m → (n : ℕ) → n ≡ count m → chipset_list m + count_size + entry_size * n ≤ length m
      last h zero e = omega (arith, h.inside)
      last h (suc n) e = omega (arith, h.entries n (omega arith))

-- flag bit 0 decides how the revisions are compared
compared : (bit r s : ℕ) → bit < 2
    → (cond (eqb bit 0) (eqb r s) (not (eqb (bit_and r s) 0)) ≡ true) ↔ ((bit ≡ 0 → r ≡ s) × (bit ≡ 1 → bit_and r s ≡ 0 → ⊥))
compared zero r s h = (λ e. (λ z. eqb-true r s e, λ z. absurd (omega arith)), λ p. eq-eqb r s (p.0 refl))
compared (suc zero) r s h = (
  λ e. (λ z. absurd (omega arith), λ z. eqb-false (bit_and r s) 0 (not-true _ e)),
  λ p. rw (ne_eqb (bit_and r s) 0 (p.1 refl)),
)
compared (suc (suc bit)) r s h = absurd (omega arith)

revision_exactly : (flags r s : ℕ) → (revision_matches flags r s ≡ true) ↔ ((flags % 2 ≡ 0 → r ≡ s) × (flags % 2 ≡ 1 → bit_and r s ≡ 0 → ⊥))
unfolding revision_matches
revision_exactly flags r s = compared (flags % 2) r s (omega arith)

pub match_exactly : (m : List ℕ) (c : Chipset) (at : ℕ) → (all (match m c at) ≡ true) ↔ Matches m c at
unfolding match
match_exactly m c at = (
  λ e.
      let t = (each _).0 e in
      let r = (revision_exactly _ _ _).0 t.1.1.0 in
      record { same_vendor = eqb-true _ _ t.0; same_device = eqb-true _ _ t.1.0; same_revision = r.0; shared_bit = r.1 },
  λ h. (each _).1
      (eq-eqb _ _ h.same_vendor
      & eq-eqb _ _ h.same_device
      & (revision_exactly _ _ _).1 (h.same_revision, h.shared_bit)
      & tt),
)

pub listed_exactly : (m : List ℕ) (c : Chipset) → (listed m c ≡ true) ↔ Listed m c
unfolding listed
listed_exactly m c = (
  λ e.
      let f = found (λ (i : ℕ). all (match m c (entry_at m i))) (count m) e in
      record { index = f.index; counted = f.below; matches = (match_exactly m c _).0 f.passes },
  λ h. finds (λ (i : ℕ). all (match m c (entry_at m i))) (count m) h.index h.counted ((match_exactly m c _).1 h.matches),
)
