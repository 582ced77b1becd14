-- The tests of rule 1 say what its propositions say.
use mathlib.Core.Path.{◌≡◌}
use mathlib.Core.Logic.{◌↔◌}
use mathlib.Core.Bool.{true}
use mathlib.Core.List.{List}
use Prim.Native.Nat.{ℕ, ◌*◌, ◌≤◌}
use native.Mathlib.Omega.{arith}
use lib.ListN.{length}
use borrow.Author.Tests.{leb-true, le-leb, eqb-true, eq-eqb}
use Rattle.range.specs.Range.{highest_end}
use Rattle.range.specs.Pairs.{ranges_of}
use Rattle.rules.specs.Rules.{all}
use Rattle.range.proofs.Ranges.{ends_exactly}
use Rattle.rules.proofs.Tests.{◌&◌, each, every_exactly}
use Rattle.launch.specs.declared.Platform.{Platform}
use Rattle.launch.specs.declared.ReservedRanges.{ReservedRanges}
use Rattle.launch.specs.Rules.{most_reserved, reserved_numbers, reserved_tests, platform_tests}
use Rattle.launch.specs.Permitted.{ReservedHold, PlatformHolds}

-- the numbers of the ranges within a count are among all numbers
pub numbers_within : (n : ℕ) (numbers : List ℕ) → length numbers ≡ 2 * most_reserved → n ≤ most_reserved → 2 * n ≤ length numbers
numbers_within n numbers long most = omega arith

pub reserved_exactly : (r : ReservedRanges) → (all (reserved_tests r) ≡ true) ↔ ReservedHold r
unfolding reserved_tests
reserved_exactly r =
    let ends = every_exactly _ _ (λ a. ends_exactly a highest_end) (ranges_of (reserved_numbers r)) in (
      λ e. let t = (each _).0 e in record { most = leb-true _ _ t.0; ends = ends.0 t.1.0 },
      λ h. (each _).1 (le-leb _ _ h.most & ends.1 h.ends & tt),
    )

pub platform_exactly : (window heap stm : List ℕ) (p : Platform) → (all (platform_tests window heap stm p) ≡ true) ↔ PlatformHolds window heap stm p
unfolding platform_tests
platform_exactly window heap stm p = (
  λ e.
      let t = (each _).0 e in
      record {
        on_page = eqb-true _ _ t.0;
        window_most = leb-true _ _ t.1.0;
        heap_most = leb-true _ _ t.1.1.0;
        stm_most = leb-true _ _ t.1.1.1.0;
        window_end = (ends_exactly _ _).0 t.1.1.1.1.0;
        heap_end = (ends_exactly _ _).0 t.1.1.1.1.1.0;
        dpr_end = (ends_exactly _ _).0 t.1.1.1.1.1.1.0;
        reserved = (reserved_exactly p.reserved).0 t.1.1.1.1.1.1.1.0;
      },
  λ h. (each _).1
      (eq-eqb _ _ h.on_page
      & le-leb _ _ h.window_most
      & le-leb _ _ h.heap_most
      & le-leb _ _ h.stm_most
      & (ends_exactly _ _).1 h.window_end
      & (ends_exactly _ _).1 h.heap_end
      & (ends_exactly _ _).1 h.dpr_end
      & (reserved_exactly p.reserved).1 h.reserved
      & tt),
)
