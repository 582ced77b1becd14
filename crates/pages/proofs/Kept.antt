-- What the code keeps tells what was found: the regions that hold the range from the first page to the last are those that hold every page.
use Prim.Native.Nat.{ℕ, ◌+◌, ◌-◌, ◌≤◌}
use mathlib.Core.Path.{◌≡◌, sym, ap, ◌∙◌}
use mathlib.Core.Bool.{Bool, true, false, cond, ◌&&◌, true≢false}
use native.Mathlib.Omega.{arith}
use borrow.Author.Tests.{ne_eqb}
use lib.Dec.{eqb}
use Rattle.range.specs.declared.Range.{Range}
use Rattle.range.specs.Range.{end_of, inside_of, page_size}
use Rattle.range.proofs.Ranges.{inside_bounds}
use Rattle.rules.specs.Tests.{any, filter}
use Rattle.rules.proofs.Tests.{agrees, and_exactly}
use Rattle.rules.proofs.Filter.{any_left, filter_twice}
use Rattle.pages.specs.declared.progress.Progress.{Progress}
use Rattle.pages.specs.Memory.{Memory, page_of, regions, protected, holding}
use Rattle.pages.specs.Rules.{after_page}
use Rattle.pages.specs.Inner.{common_of, up_to, first_address, state_of, pages_to, Above}

-- a region is one range: it holds an earlier range and a page exactly where it holds all from the one to the other
joined : (x : Range) (a : ℕ) (r : Range) → x.base ≤ a → end_of x ≤ a + page_size → (inside_of x r && inside_of (page_of a) r) ≡ inside_of (up_to x.base a) r
joined x a r from to =
    let both = and_exactly (inside_bounds x r) (inside_bounds (page_of a) r) in
    agrees (inside_of x r && inside_of (page_of a) r) (inside_bounds (up_to x.base a) r) (λ e. omega (arith, both.0 e)) (λ e h. true≢false (sym (both.1 (omega arith)) ∙ e))

module _ (p : Progress) (a : ℕ) (h : Above p a) where
  -- the regions that are left with the page at a
  common_after : (m : Memory) → holding (common_of m p) a ≡ filter (inside_of (pages_to p a)) (regions m)
  unfolding holding
  common_after m = by (eqb p.count 0)
    where
      by : (none : Bool)
          → filter (inside_of (page_of a)) (cond none (regions m) (filter (inside_of p.pages) (regions m)))
          ≡ filter (inside_of (up_to (cond none a p.pages.base) a)) (regions m)
      by true =
          let e : a - a + page_size ≡ page_size = omega arith in
          rw e
      by false =
          filter_twice (inside_of (page_of a)) (inside_of p.pages) (inside_of (up_to p.pages.base a))
          (λ r. joined p.pages a r (omega (arith, h.above, p.from)) (omega (arith, h.above, p.to)))
          (regions m)

  pub protected_is : (m : Memory) → any (inside_of (pages_to p a)) (regions m) ≡ protected (common_of m p) a
  unfolding protected holding
  protected_is m =
      any_left (inside_of (pages_to p a)) (regions m)
      ∙ ap (any (λ (r : Range). true)) (sym (common_after m))
      ∙ sym (any_left (inside_of (page_of a)) (common_of m p))

  first_below : first_address p a ≤ a
  first_below = by (eqb p.count 0)
    where
      by : (none : Bool) → cond none a p.pages.base ≤ a
      by true = omega arith
      by false = omega (arith, h.above, p.from)

  -- a page more in what is kept is one more in what was found
  pub page_counted : (l first : ℕ) → first ≡ cond (eqb p.count 0) l p.first → (pages : Range) → pages ≡ pages_to p a → (m : Memory)
      → record { last = a; tables = p.tables; first = first; count = p.count + 1; common = cond (eqb (p.count + 1) 0) (regions m) (filter (inside_of pages) (regions m)) }
      ≡ after_page (state_of m p) l a
  page_counted l first e pages f m = rw (e, f, ne_eqb (p.count + 1) 0 (λ z. omega arith), common_after m)
