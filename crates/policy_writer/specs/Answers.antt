-- What `write` answers for the reading that is described, if one is: the length and the record, or the number of a refusal; and what stands in the buffer
-- afterwards.
use Rattle.std.specs.Prelude.{ℕ, Bool, cond, ◌&&◌, List, ◌++◌, leb, length, drop, replicate, Result, Ok, Err}
use Rattle.std.proofs.Math.Option.{Option, some, none}
use Rattle.policy_grammar.specs.Grammar.{Reading, file_bytes}
use Rattle.policy_grammar.specs.Sizes.{largest_file}
use Rattle.policy_record.specs.Record.{record_size}
use Rattle.decision.specs.Lists.{hash_of}
use Rattle.policy_writer.specs.declared.Written.{Written}

abbrev pub refused : ℕ → Result Written ℕ
refused n = Err n

-- "give its length and the 70-byte record with a right PolicyHash, other fields as asked"
abbrev pub written : List ℕ → Reading → Result Written ℕ
written fields r = Ok (record { length = length (file_bytes r); «record» = fields ++ hash_of r.lists })

-- of a refusal "length and record are all zero"
abbrev pub length_of : Result Written ℕ → ℕ
length_of (Ok w) = w.length
length_of (Err n) = 0

abbrev pub record_of : Result Written ℕ → List ℕ
record_of (Ok w) = w.«record»
record_of (Err n) = replicate record_size 0

-- "a file over 65,536 bytes 32, else too small a buffer 33"
abbrev pub not_too_long : Reading → Bool
not_too_long r = leb (length (file_bytes r)) largest_file

abbrev pub has_room : List ℕ → Reading → Bool
has_room buffer r = leb (length (file_bytes r)) (length buffer)

-- "One outside the grammar, or with another type, is 31, else .."
abbrev pub answer_for : List ℕ → List ℕ → Option Reading → Result Written ℕ
answer_for fields buffer none = refused 31
answer_for fields buffer (some r) = cond (not_too_long r) (cond (has_room buffer r) (written fields r) (refused 33)) (refused 32)

-- "then the buffer keeps its bytes"; "On success .. bytes past the file stay."
abbrev pub buffer_for : List ℕ → Option Reading → List ℕ
buffer_for buffer none = buffer
buffer_for buffer (some r) = cond (not_too_long r && has_room buffer r) (file_bytes r ++ drop (length (file_bytes r)) buffer) buffer
