-- What `write` answers, by the tests that lead to each answer, and the policy record.
use Prim.Native.Nat.{ℕ, ◌-◌, ◌≤◌, ◌<◌}
use native.Mathlib.Omega.{arith}
use mathlib.Core.Path.{◌≡◌, refl, ap, sym, ◌∙◌}
use mathlib.Core.List.{List, [], ◌∷◌, ◌++◌, append-nil}
use mathlib.Core.Option.{some}
use lib.ListN.{length, take, drop, length-append}
use lib.Seq.{take_at, drop-length}
use borrow.Author.Tests.{le-leb, lt-leb}
use Rattle.field.specs.Number.{Bytes}
use Rattle.policy_grammar.specs.Grammar.{Reading, file_bytes}
use Rattle.policy_reader.proofs.Places.{accepted_complete}
use Rattle.decision.specs.Lists.{hash_of, lists_of}
use Rattle.policy_writer.specs.declared.Cursor.{Cursor}
use Rattle.policy_writer.specs.Types.{Next}
use Rattle.std.specs.Prelude.{Some, None, Result, Ok, Err}
use Rattle.rules.specs.declared.refusal.Refusal.{Refusal}
use Rattle.rules.specs.declared.refusal.Refusal.TheVariants as refusals
use Rattle.rules.specs.Refusal.{numbered}
use Rattle.policy_writer.specs.declared.Written.{Written}
use Rattle.policy_writer.specs.Decode.{described, file}
use Rattle.policy_writer.specs.Inner.{put, Start, behind, next_of, Put}
use Rattle.policy_writer.specs.Answers.{answer_for, buffer_for}
use Rattle.policy_writer.specs.Writing.{Words}
use Rattle.policy_writer.proofs.Buffer.{put_behind, put_front}
use Rattle.policy_writer.proofs.Rows.{found, found_not}
use Rattle.policy_writer.proofs.Described.{described_exactly}

-- an empty part of a buffer is put back
pub kept_empty : (e out : List ℕ) → length e ≡ 0 → e ++ out ≡ out
kept_empty [] out h = refl
kept_empty (x ∷ e) out h = absurd (omega arith)

-- the hash of what stands at the front of a buffer
pub hash_front : (h out : List ℕ) (size : ℕ) → h ≡ hash_of (lists_of (take (size - 0) out)) → h ≡ hash_of (lists_of (take size out))
hash_front h out size e = let n : size - 0 ≡ size = omega arith in e ∙ ap (λ (k : ℕ). hash_of (lists_of (take k out))) n

-- THE RECORD

pub record_made : (zeros fields hash a b : List ℕ) → length zeros ≡ 70 → length fields ≡ 38 → length hash ≡ 32 → a ≡ put zeros 0 fields → b ≡ put a 38 hash → b ≡ fields ++ hash
record_made zeros fields hash a b lz lf lh ea eb =
    let n : length (fields ++ hash) ≡ 70 = length-append fields hash ∙ omega arith in
    let e : drop (length (fields ++ hash)) zeros ≡ [] = ap (λ (k : ℕ). drop k zeros) (n ∙ sym lz) ∙ drop-length zeros in
    eb ∙ ap (λ (d : List ℕ). put d 38 hash) ea ∙ put_behind zeros 0 fields hash 38 (omega arith)
    ∙ put_front zeros (fields ++ hash) (omega arith) ∙ ap (λ (t : List ℕ). (fields ++ hash) ++ t) e ∙ append-nil (fields ++ hash)

-- THE ANSWERS

module _ (ns bs fields out : List ℕ) (r : Next) (er : r ≡ next_of file Start (described ns bs)) where
  abbrev Answers : Result Written Refusal → List ℕ → Type 0
  Answers w later = (numbered w ≡ answer_for fields out (described ns bs)) × (later ≡ buffer_for out (described ns bs))

  pub nothing_described : r ≡ None → (later : List ℕ) → later ≡ out → Answers (Err refusals.PolicyDescription) later
  nothing_described q later e = let i = found_not file ns bs Start r er q in rw i (refl, e)

  module _ (d : Cursor) (q : r ≡ Some d) where
    abbrev reading : (x : Reading) × (described ns bs ≡ some x) × (behind file Start x ≡ d)
    reading = found file ns bs Start r d er q

    size_is : length (file_bytes reading.0) ≡ d.bytes
    size_is = let (x, i, e) = reading in omega (arith, ap (λ (y : Cursor). y.bytes) e)

    pub too_long : 65536 < d.bytes → (later : List ℕ) → later ≡ out → Answers (Err refusals.PolicySize) later
    too_long h later e =
        let i = reading.1 in
        rw (i, lt-leb (length (file_bytes reading.0)) 65536 (omega (arith, size_is))) (refl, e)

    module _ (l : d.bytes ≤ 65536) where
      pub no_room : length out < d.bytes → (later : List ℕ) → later ≡ out → Answers (Err refusals.PolicyRoom) later
      no_room h later e =
          let i = reading.1 in
          rw (i, le-leb (length (file_bytes reading.0)) 65536 (omega (arith, size_is)), lt-leb (length (file_bytes reading.0)) (length out) (omega (arith, size_is))) (refl, e)

      module _ (room : d.bytes ≤ length out) (w : Words ns) (b : Bytes bs) where
        abbrev bytes : List ℕ
        bytes = file_bytes reading.0

        -- the reader reads from the file the lists that were described
        lists_are : lists_of bytes ≡ reading.0.lists
        lists_are =
            let v = ((described_exactly ns bs reading.0 w b).0 reading.1).valid in
            rw (accepted_complete reading.0 bytes (record { valid = v; made = refl }) (omega (arith, size_is)))

        -- what is written from the front of the buffer on
        module _ (r' : Next) (er' : r' ≡ next_of file Start (described ns bs)) (mid later : List ℕ) (em : mid ≡ out) (p : Put file ns bs Start mid r' later) where
          written_is : later ≡ bytes ++ drop (length bytes) out
          written_is = p.put_there d (er' ∙ sym er ∙ q) ∙ rw (em, reading.1) (put_front out bytes (omega (arith, size_is)))

          pub file_there : d.bytes ≤ length later
          file_there = omega (arith, size_is, ap length written_is, length-append bytes (drop (length bytes) out))

          pub all_written : (hash rec : List ℕ) → hash ≡ hash_of (lists_of (take d.bytes later)) → rec ≡ fields ++ hash
              → Answers (Ok (record { length = d.bytes; «record» = rec })) later
          all_written hash rec eh e =
              let i = reading.1 in
              let front : take d.bytes later ≡ bytes = ap (take d.bytes) written_is ∙ take_at bytes (drop (length bytes) out) d.bytes size_is in
              let h : hash ≡ hash_of reading.0.lists = eh ∙ ap (λ (s : List ℕ). hash_of (lists_of s)) front ∙ ap hash_of lists_are in
              rw (i, le-leb (length bytes) 65536 (omega (arith, size_is)), le-leb (length bytes) (length out) (omega (arith, size_is)), size_is)
              (rw (e, h), written_is ∙ ap (λ (k : ℕ). bytes ++ drop k out) size_is)
