use mathlib.Core.Path.{◌≡◌}
use lib.ListN.{drop}
use Rattle.sinit.specs.Module.{first, editions, row_of}
use Rattle.sinit.proofs.header.row_of.Given as goal

abbrev pub invariant-loop-row : goal.invariant-loop-row
invariant-loop-row l = row_of l.version first (drop l.row-index l.row-items) ≡ row_of l.version first editions
