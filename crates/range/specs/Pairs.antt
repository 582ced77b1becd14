-- Ranges that are given as numbers, the base and the size of each in turn.
use Rattle.std.specs.Prelude.{ℕ, List, [], ◌∷◌}
use Rattle.range.specs.declared.Range.{Range}

-- a number that is left over is no range
unfoldable pub ranges_of : List ℕ → List Range
ranges_of [] = []
ranges_of (base ∷ []) = []
ranges_of (base ∷ size ∷ rest) = record { base = base; size = size } ∷ ranges_of rest
