-- A digest as a line of text.
use Rattle.std.specs.Prelude.{ℕ, List, [], ◌∷◌, ◌++◌}
use Rattle.fips_vectors.specs.Digits.{last_digits}

-- two hexadecimal digits for each byte, and the line feed
unfoldable pub line_of : List ℕ → List ℕ
line_of [] = 10 ∷ []
line_of (b ∷ d) = last_digits 16 2 b ++ line_of d
