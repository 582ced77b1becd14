-- `marked` meets its contract: it is false where the mark does not fit, and elsewhere compares the bytes.
use Prim.Native.Nat.{ℕ, ◌+◌, ◌-◌}
use mathlib.Core.List.{List}
use lib.Dec.{eqb}
use lib.ListN.{length, take, drop}
use Rattle.std.specs.Cmp.Lexicographic.{pointwise}
use mathlib.Core.Path.{◌≡◌, refl, sym}
use mathlib.Core.Logic.{◌↔◌}
use mathlib.Core.Bool.{Bool, true, false, not-eq-not}
use native.Mathlib.Nat.{add-sub_cancel_left}
use native.Mathlib.Omega.{arith}
use Rattle.std.proofs.lemmas.Bool.Decides.{Decides-eqb}
use Rattle.std.proofs.lemmas.Slice.Eq.{slice_eq-Decides}
use Rattle.field.proofs.Laws.{marked_at_lem}
use Rattle.field.proofs.marked.Goals as goal

agree : (a b : Bool) → (a ≡ true) ↔ (b ≡ true) → a ≡ b
agree true b h = sym (h.0 refl)
agree false true h = h.1 refl
agree false false h = refl

pub returns-then-s-mark : goal.returns-then-s-mark
returns-then-s-mark c = sym (not-eq-not.0 (λ e. omega (arith, ((marked_at_lem _ _ _).0 e).0)))

pub returns-then-s-mark-2 : goal.returns-then-s-mark-2
returns-then-s-mark-2 c = sym (not-eq-not.0 (λ e. omega (arith, ((marked_at_lem _ _ _).0 e).0)))

compared : (s mark : List ℕ) (at : ℕ) (r : Bool) → r ≡ pointwise eqb (take (at + length mark - at) (drop at s)) mark
    → (r ≡ true) ↔ (take (length mark) (drop at s) ≡ mark)
compared s mark at r e = slice_eq-Decides Decides-eqb _ _ _ (rw add-sub_cancel_left at e)

pub returns : goal.returns
returns c =
    let same = compared _ _ _ _ c.eq.ensures in
    agree _ _ (λ e. (marked_at_lem _ _ _).1 (omega arith, same.0 e), λ e. same.1 ((marked_at_lem _ _ _).0 e).1)
