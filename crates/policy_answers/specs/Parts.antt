-- Parts of a string as bytes, where they stand.
use Rattle.std.specs.Prelude.{ℕ, ◌+◌, cond, List, [], length, take, drop, leb}
use Rattle.std.specs.Prelude.{Some, None}
use Rattle.policy_answers.specs.Types.{ElementAnswer}

-- the bytes of a part that lies within the string; no bytes of one that does not
unfoldable pub part_at : List ℕ → ℕ → ℕ → List ℕ
part_at s start len = cond (leb (start + len) (length s)) (take len (drop start s)) []

-- the body of an element: its bytes after the first 12
abbrev pub body_of : List ℕ → ElementAnswer → List ℕ
body_of s None = []
body_of s (Some e) = drop 12 (part_at s e.start e.size)
