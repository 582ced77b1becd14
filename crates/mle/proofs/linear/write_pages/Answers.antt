-- The places before the one that the loop has come to hold addresses, and the others are as they were.
use Prim.Native.Nat.{ℕ}
use mathlib.Core.Path.{◌≡◌, sym, ◌∙◌, ap}
use mathlib.Core.List.{◌++◌}
use native.Mathlib.Omega.{arith}
use lib.ListN.{drop}
use Rattle.mle.specs.Image.{addresses_from}
use Rattle.mle.proofs.Pages.{addresses_nothing, addresses_set, page_list_written, page_list_short}
use Rattle.mle.proofs.linear.write_pages.Goals as goal

pub returns-then-pages-count : goal.returns-then-pages-count
returns-then-pages-count c = sym (page_list_short _ _ _ (omega arith))

pub loop-k-init : goal.loop-k-init
loop-k-init c = rw addresses_nothing

pub loop-k-preserved : goal.loop-k-preserved
loop-k-preserved c =
    let g = c.args in
    rw (c.address.ensures, c.loop-k.invariant) (addresses_set g.w.now g.image g.image.first c.loop-k.k g.pages.now (omega arith))

pub returns : goal.returns
returns c =
    let g = c.args in
    let e : c.loop-k.k ≡ g.image.count = omega arith in
    c.loop-k.invariant
    ∙ ap (λ (n : ℕ). addresses_from g.w.now g.image g.image.first n ++ drop n g.pages.now) e
    ∙ sym (page_list_written _ _ _ (omega arith))
