-- What the writer promises of every description, buffer and record: `DescribedExactly`, `ReadsBack`, `WritesBack` and `HashHolds`. Each is proved under the
-- same name in small letters: proofs/Described.antt and Writing.antt. The sentences in quotes are those of request (vii).
use Rattle.std.specs.Prelude.{ℕ, ◌≤◌, ◌<◌, ◌^◌, ◌≡◌, ◌↔◌, List, ◌++◌, length, take, drop, get_or, Result}
use Rattle.std.proofs.Math.Option.{some}
use Rattle.field.specs.Number.{Bytes}
use Rattle.policy_grammar.specs.Grammar.{All, Reading}
use Rattle.policy_grammar.specs.Decode.{accepted}
use Rattle.decision.specs.Answers.{file_fault_of}
use Rattle.rules.specs.Refusal.{number_of}
use Rattle.policy_writer.specs.declared.Written.{Written}
use Rattle.policy_writer.specs.Descriptions.{numbers_of, bodies_of, Describable, Describe}
use Rattle.policy_writer.specs.Decode.{described}
use Rattle.policy_writer.specs.Answers.{length_of, record_of, answer_for, buffer_for}

-- every number is one of 32 bits
abbrev pub Words : List ℕ → Type 0
Words ns = (i : ℕ) → get_or ns i 0 < 2 ^ 32

-- the reading that the contract of `write` names is the one that the numbers and the bodies describe; so they describe one at most
abbrev pub DescribedExactly : Type 0
DescribedExactly = (ns bs : List ℕ) (r : Reading) → Words ns → Bytes bs → (described ns bs ≡ some r) ↔ Describe ns bs r

-- what `write` answers, and the file that it wrote: so many bytes at the front of the buffer
abbrev pub answer : List ℕ → List ℕ → List ℕ → List ℕ → Result Written ℕ
answer ns bs fields buffer = answer_for fields buffer (described ns bs)

abbrev pub file_in : List ℕ → List ℕ → List ℕ → List ℕ → List ℕ
file_in ns bs fields buffer = take (length_of (answer ns bs fields buffer)) (buffer_for buffer (described ns bs))

-- "Reading what was written gives the descriptions back": the reader accepts the file, and the numbers and the bodies describe its reading
pub record ReadBack (ns bs file : List ℕ) : Type 0 where
  pub reading : Reading
  pub read : accepted file ≡ some reading
  pub describes : Describe ns bs reading

abbrev pub ReadsBack : Type 0
ReadsBack =
    (ns bs fields buffer : List ℕ) → Words ns → Bytes bs
    → number_of (answer ns bs fields buffer) ≡ 0 → ReadBack ns bs (file_in ns bs fields buffer)

-- "writing the reading of any unsigned file of those two types gives its bytes again where the buffer has room": its numbers and bodies can be lent, and
-- with them the file is written again
pub record WrittenBack (file : List ℕ) (r : Reading) (fields buffer : List ℕ) : Type 0 where
  pub words : Words (numbers_of r)
  pub bytes : Bytes (bodies_of r)
  pub number : number_of (answer (numbers_of r) (bodies_of r) fields buffer) ≡ 0
  pub size : length_of (answer (numbers_of r) (bodies_of r) fields buffer) ≡ length file
  pub stands : buffer_for buffer (described (numbers_of r) (bodies_of r)) ≡ file ++ drop (length file) buffer

abbrev pub WritesBack : Type 0
WritesBack =
    (file : List ℕ) (r : Reading) (fields buffer : List ℕ) → Bytes file
    → accepted file ≡ some r → All Describable r.lists → length file ≤ length buffer → WrittenBack file r fields buffer

-- "the 70-byte record with a right PolicyHash": with the file and the record the check passes rules 27 and 28
abbrev pub HashHolds : Type 0
HashHolds =
    (ns bs fields buffer : List ℕ) → Words ns → Bytes bs → length fields ≡ 38
    → number_of (answer ns bs fields buffer) ≡ 0
    → file_fault_of (file_in ns bs fields buffer) (record_of (answer ns bs fields buffer)) ≡ record { number = 0; place = 0 }
