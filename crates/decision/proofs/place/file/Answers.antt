-- `file` meets its contract: where the file is placed its part lies in the window.
use Prim.Native.Nat.{ℕ, ◌+◌, ◌-◌}
use mathlib.Core.Path.{◌≡◌}
use mathlib.Core.Bool.{Bool, true, false, cond}
use mathlib.Core.List.{List, []}
use native.Mathlib.Nat.{add-sub_cancel_left}
use lib.ListN.{take, drop}
use Rattle.decision.specs.Lists.{file_of}
use Rattle.rules.proofs.Tests.{confirmed}
use Rattle.decision.proofs.Conditions.{placed_exactly}
use borrow.Author.Rules.{rules}
use Rattle.decision.proofs.place.file.Goals as goal

not_placed : (r t : Bool) (x : List ℕ) → r ≡ t → r ≡ false → [] ≡ cond t x []
not_placed r t x e h = rw (← e, h)

is_placed : (r t : Bool) (at size : ℕ) (w : List ℕ) → r ≡ t → r ≡ true → take (at + size - at) (drop at w) ≡ cond t (take size (drop at w)) []
is_placed r t at size w e h = rw (← e, h, add-sub_cancel_left)

pub returns-then-not-file_placed : goal.returns-then-not-file_placed
unfolding file_of
returns-then-not-file_placed c = search (rules, not_placed)

pub overflow_sub-at : goal.overflow_sub-at
overflow_sub-at c =
    let p = (placed_exactly _ _ _ _).0 (confirmed _ c.file_placed.ensures c.if-not-file_placed.false) in
    search rules

pub overflow_add-end : goal.overflow_add-end
overflow_add-end c =
    let p = (placed_exactly _ _ _ _).0 (confirmed _ c.file_placed.ensures c.if-not-file_placed.false) in
    search rules

pub slice_bounds-result-end-2 : goal.slice_bounds-result-end-2
slice_bounds-result-end-2 c =
    let p = (placed_exactly _ _ _ _).0 (confirmed _ c.file_placed.ensures c.if-not-file_placed.false) in
    search rules

pub returns : goal.returns
unfolding file_of
returns c = search (rules, is_placed)
