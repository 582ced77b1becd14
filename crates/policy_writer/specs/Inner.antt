-- What the contracts of functions cite that are not public: where a walk through a description stands, and what it has put into a buffer.
use Rattle.std.specs.Prelude.{ℕ, ◌+◌, ◌-◌, ◌≤◌, ◌<◌, ◌≡◌, Bool, cond, ◌&&◌, List, [], length, take, drop, leb}
use Rattle.std.proofs.Math.Option.{Option, some, none}
use Rattle.std.proofs.lemmas.List.Edits.{sets}
use Rattle.policy_grammar.specs.Grammar.{element_bytes, list_bytes, file_bytes}
use Rattle.policy_grammar.specs.Grammar as Grammar
use Rattle.policy_grammar.specs.Parser.{value_of, is_some, filling}
use Rattle.policy_grammar.specs.Layout as Layout
use Rattle.policy_writer.specs.declared.Cursor.{Cursor}
use Rattle.policy_writer.specs.Types.{Next}
use Rattle.std.specs.Prelude.{Some, None}
use Rattle.policy_writer.specs.Decode.{Part, written_type, size_fits, element_with, list_of, reading_of}

-- bytes that are put into a buffer from an offset on; those past its end are not put
unfoldable pub put : List ℕ → ℕ → List ℕ → List ℕ
put out at s = sets out at s

-- so many of n bytes from an offset on lie within a buffer of `room` bytes
pub record Placed (room at n k : ℕ) : Type 0 where
  pub most : k ≤ n
  pub within : 0 < k → at + k ≤ room
  pub whole : k < n → room ≤ at + k

-- an element of a type is written with a body of so many bytes at the front of the bodies
unfoldable pub element_given : ℕ → ℕ → List ℕ → Bool
element_given type n bs =
    written_type type && (size_fits (12 + n) && (leb n (length bs) && is_some (value_of (filling (Layout.body type) (take n bs)))))

-- the bytes of an element with a body, whatever its type; of a list before its elements, and of a file before its lists: those of a list and of a file that
-- have none
unfoldable pub element_text : ℕ → ℕ → List ℕ → List ℕ
element_text type control b = element_bytes (element_with type control (length b) (Grammar.other b))

unfoldable pub list_head : ℕ → ℕ → List ℕ
list_head version size = list_bytes (list_of version size [])

unfoldable pub file_head : ℕ → List ℕ
file_head count = file_bytes (reading_of count [])

-- where a walk starts
abbrev pub Start : Cursor
Start = record { numbers = 0; bodies = 0; bytes = 0 }

-- the part where a walk stands
abbrev pub part_at : (P : Part) → List ℕ → List ℕ → Cursor → Option P.Value
part_at P ns bs c = P.front (drop c.numbers ns) (drop c.bodies bs)

-- where it stands behind a part
abbrev pub behind : (P : Part) → Cursor → P.Value → Cursor
behind P c a =
    record {
      numbers = c.numbers + length (P.numbers a);
      bodies = c.bodies + length (P.bodies a);
      bytes = c.bytes + length (P.bytes a);
    }

abbrev pub next_of : (P : Part) → Cursor → Option P.Value → Next
next_of P c none = None
next_of P c (some a) = Some (behind P c a)

-- a part of at most so many bytes
abbrev pub up_to : Cursor → Next → Next
up_to c None = None
up_to c (Some d) = cond (size_fits (d.bytes - c.bytes)) (Some d) None

-- the bytes of a part from where the walk stands on
abbrev pub put_of : (P : Part) → List ℕ → Cursor → Option P.Value → List ℕ
put_of P out c none = out
put_of P out c (some a) = put out c.bytes (P.bytes a)

-- what was put where the walk went on
pub record Put (P : Part) (ns bs : List ℕ) (c : Cursor) (out : List ℕ) (r : Next) (later : List ℕ) : Type 0 where
  pub put_there : (d : Cursor) → r ≡ Some d → later ≡ put_of P out c (part_at P ns bs c)

-- the walk stands within the description, and not too far on in the file
pub record Within (ns bs : List ℕ) (most : ℕ) (c : Cursor) : Type 0 where
  pub numbers : c.numbers ≤ length ns
  pub bodies : c.bodies ≤ length bs
  pub bytes : c.bytes ≤ most
