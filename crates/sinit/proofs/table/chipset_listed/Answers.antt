-- `chipset_listed` meets its contract: an entry that is counted matches, or none does.
use Prim.Native.Nat.{ℕ, ◌+◌, ◌*◌, ◌<◌}
use mathlib.Core.Path.{◌≡◌, refl, sym, ◌∙◌}
use mathlib.Core.Bool.{Bool, true, false, true≢false}
use mathlib.Core.List.{List}
use native.Mathlib.Omega.{arith}
use borrow.Author.Rules.{rules}
use lib.ListN.{length}
use Rattle.std.specs.Bool.{MatchBool}
use Rattle.std.specs.List.{range_with_len, HoldsAt, AllWithin}
use Rattle.std.proofs.lemmas.Iterator.{cases_from_any, YieldsList-from_range}
use Rattle.std.proofs.lemmas.List.FromFn.{length-range_with_len, get_or-range_with_len}
use Rattle.rules.specs.Rules.{all}
use Rattle.rules.proofs.Tests.{fails, holds}
use Rattle.sinit.specs.declared.Chipset.{Chipset}
use Rattle.sinit.specs.Module.{chipset_list, count}
use Rattle.sinit.specs.Rules.{match, listed}
use Rattle.sinit.proofs.Conditions.{match_exactly, listed_exactly}
use Rattle.sinit.proofs.table.chipset_listed.Goals as goal

-- whether the entry number i matches, where the list begins at an offset
module _ (m : List ℕ) (chipset : Chipset) (start : ℕ) where
  abbrev Answers : Bool → ℕ → Type 0
  Answers b i = all (match m chipset (start + 4 + 16 * i)) ≡ b

  module _ (n : ℕ) (at : start ≡ chipset_list m) (counted : n ≡ count m) where
    abbrev numbers : List ℕ
    numbers = range_with_len 0 n

    found : (r : Bool) → MatchBool r ((k : ℕ) × (k < length numbers) × HoldsAt (Answers true) numbers k) (AllWithin (Answers false) numbers 0 (length numbers))
        → r ≡ listed m chipset
    found true h =
        let l : h.0 < n = omega (arith, h.1, length-range_with_len 0 n) in
        let one : Answers true (0 + h.0) = rw (get_or-range_with_len 0 n h.0 0 l) at (h.2 0) in
        let k : 0 + h.0 ≡ h.0 = omega arith in
        holds (listed_exactly m chipset) (record { index = h.0; counted = omega arith; matches = (match_exactly _ _ _).0 (rw (k, at) at one) })
    found false h =
        fails (listed_exactly m chipset)
        (λ l.
        let i : l.index < n = omega (arith, l.counted) in
        let none : Answers false (0 + l.index) = rw (get_or-range_with_len 0 n l.index 0 i) at (h l.index 0 (omega arith) (omega (arith, length-range_with_len 0 n))) in
        let k : 0 + l.index ≡ l.index = omega arith in
        true≢false (sym ((match_exactly _ _ _).1 l.matches) ∙ rw (k, at) at none))

pub returns : goal.returns
returns c =
    found c.args.acm.now c.args.chipset c.list_offset-start.result c.list_count-count.result c.list_offset-start.ensures.0 c.list_count-count.ensures.0 _
    (cases_from_any _ _ _ (Answers c.args.acm.now c.args.chipset c.list_offset-start.result true) (Answers c.args.acm.now c.args.chipset c.list_offset-start.result false)
    c.any.ensures.ran
    (YieldsList-from_range 0 c.list_count-count.result c.list_count-count.result refl (omega arith))
    (λ x q h. search rules)
    (λ x q h. search rules))
