-- `with_page` meets its contract: the first page found is the first linear page, and the range of the pages reaches to the new one.
use mathlib.Core.Path.{◌≡◌}
use mathlib.Core.Bool.{cond}
use borrow.Author.Tests.{eq-eqb, ne_eqb}
use lib.Dec.{eqb}
use Rattle.pages.proofs.Kept.{page_counted}
use Rattle.pages.proofs.progress.Progress.with_page.Goals as goal
use Rattle.pages.proofs.progress.Progress.with_page.Goals.{then-self-eq0, else-self-eq0}

pub returns : goal.returns
returns c =
    let p = c.args.self in
    let first : c.if-self-eq0.first ≡ cond (eqb p.count 0) c.args.l p.first =
    elim c.if-self-eq0.branch [
      | then-self-eq0 w ↦ simp (w.first-is, eq-eqb _ 0 w.if-self-eq0.true)
      | else-self-eq0 w ↦ simp (w.first-is, ne_eqb _ 0 w.if-self-eq0.false)
    ] in
    page_counted p c.args.a c.requires.above c.args.l _ first _ c.pages_to-pages.ensures
