use mathlib.Core.Path.{◌≡◌}
use mathlib.Core.List.{◌++◌}
use lib.ListN.{drop}
use Rattle.mle.specs.Image.{addresses_from}
use Rattle.mle.proofs.linear.write_pages.Given as goal

abbrev pub invariant-loop-k : goal.invariant-loop-k
invariant-loop-k l =
    l.pages ≡ addresses_from l.w l.image l.image.first l.k ++ drop l.k l.initial.pages
