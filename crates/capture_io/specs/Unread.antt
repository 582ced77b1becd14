-- The line that says of a name that it could not be read, and why. Std shows an error as the system's words and a number behind them; the line has the
-- words alone.
use Rattle.std.specs.Prelude.{ℕ, cond, List, [], ◌∷◌, ◌++◌, nat_eq}
use Rattle.std.specs.List.{starts_with}

-- the characters ` (os error `, with which the number begins
abbrev pub numbered : List ℕ
numbered = 32 ∷ 40 ∷ 111 ∷ 115 ∷ 32 ∷ 101 ∷ 114 ∷ 114 ∷ 111 ∷ 114 ∷ 32 ∷ []

-- what stands before the first place where these characters do, and all of a text without them
unfoldable pub words : List ℕ → List ℕ
words [] = []
words (b ∷ text) = cond (starts_with nat_eq (b ∷ text) numbered) [] (b ∷ words text)

-- the name, a colon and a space, the words, and the line's end
abbrev pub unread_line : List ℕ → List ℕ → List ℕ
unread_line name why = name ++ ((58 ∷ 32 ∷ []) ++ (words why ++ (10 ∷ [])))
