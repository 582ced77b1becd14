-- `page_bytes` meets its contract: a page inside the window ends within it.
use Prim.Native.Nat.{ℕ, ◌+◌, ◌-◌, ◌≤◌}
use mathlib.Core.Path.{◌≡◌, sym, ◌∙◌}
use mathlib.Core.Bool.{Bool, true, false}
use mathlib.Core.List.{List, []}
use native.Mathlib.Nat.{add-sub_cancel_left}
use native.Mathlib.Omega.{arith}
use lib.ListN.{length, take, drop}
use Rattle.range.specs.Range.{inside_of, page_size}
use Rattle.range.proofs.Ranges.{inside_bounds}
use Rattle.rules.proofs.Tests.{confirmed}
use Rattle.pages.specs.Memory.{page_of, window_of}
use Rattle.mle.specs.declared.Image.{Image}
use Rattle.mle.specs.Image.{bytes_at}
use Rattle.mle.proofs.Pages.{bytes_there, bytes_none}
use Rattle.mle.proofs.linear.page_bytes.Goals as goal

-- what the answer r of the test says
module _ (w : List ℕ) (image : Image) (a : ℕ) (r : Bool) (e : r ≡ inside_of (page_of a) (window_of w image.window)) where
  outside : r ≡ false → [] ≡ bytes_at w image a
  outside h = sym (bytes_none w image a (sym e ∙ h))

  inside : r ≡ true → take (a - image.window + page_size - (a - image.window)) (drop (a - image.window) w) ≡ bytes_at w image a
  inside h = rw add-sub_cancel_left (sym (bytes_there w image a (confirmed r e h)))

-- what the test says, in the image's own terms
module _ (w b : List ℕ) (image : Image) (base a : ℕ) (r : Bool) (bytes : b ≡ w) (at : base ≡ image.window) (e : r ≡ inside_of (page_of a) (window_of b base)) where
  tested : r ≡ inside_of (page_of a) (window_of w image.window)
  tested = rw (← bytes, ← at) e

  bounds : r ≡ true → (image.window ≤ a) × (a + page_size ≤ image.window + length w)
  bounds h = (inside_bounds _ _).0 (confirmed r tested h)

pub returns-then-not-has_page : goal.returns-then-not-has_page
returns-then-not-has_page c =
    let w = c.window_in.ensures in
    outside _ c.args.image _ _ (tested _ _ c.args.image _ _ _ w.same_bytes w.same_base c.has_page.ensures) c.if-not-has_page.true

pub overflow_sub-at : goal.overflow_sub-at
overflow_sub-at c =
    let w = c.window_in.ensures in
    omega (arith, bounds _ _ c.args.image _ _ _ w.same_bytes w.same_base c.has_page.ensures c.if-not-has_page.false)

pub overflow_add-end : goal.overflow_add-end
overflow_add-end c =
    let w = c.window_in.ensures in
    omega (arith, bounds _ _ c.args.image _ _ _ w.same_bytes w.same_base c.has_page.ensures c.if-not-has_page.false)

pub slice_bounds-result-end-2 : goal.slice_bounds-result-end-2
slice_bounds-result-end-2 c =
    let w = c.window_in.ensures in
    omega (arith, bounds _ _ c.args.image _ _ _ w.same_bytes w.same_base c.has_page.ensures c.if-not-has_page.false)

pub returns : goal.returns
returns c =
    let w = c.window_in.ensures in
    inside _ c.args.image _ _ (tested _ _ c.args.image _ _ _ w.same_bytes w.same_base c.has_page.ensures) c.if-not-has_page.false
