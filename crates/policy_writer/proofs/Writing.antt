-- What the writer promises: the file that is written is read back as it was described, a file that is read is written again, and the record holds its hash.
use Prim.Native.Nat.{ℕ, ◌≤◌}
use native.Mathlib.Omega.{arith}
use mathlib.Core.Path.{◌≡◌, refl, ap, sym, subst}
use mathlib.Core.Bool.{Bool, true, false, cond, and-eq-true_iff}
use mathlib.Core.List.{List, ◌++◌, flat_map}
use mathlib.Core.Option.{Option, some, none}
use lib.ListN.{length, drop}
use lib.Seq.{take_all, drop_at, take-append_seam}
use lib.Dec.{leb}
use borrow.Author.Tests.{le-leb, leb-true}
use Rattle.field.specs.Number.{Bytes}
use Rattle.field.proofs.Laws.{same_refl}
use Rattle.sha256.proofs.Parts.{length_sha256}
use Rattle.policy_grammar.specs.Grammar.{PolicyList, Reading, file_bytes}
use Rattle.policy_grammar.specs.Parser.{is_some}
use Rattle.policy_grammar.specs.Decode.{accepted}
use Rattle.policy_grammar.specs.Sizes.{least_file, largest_file}
use Rattle.policy_reader.proofs.Places.{accepted_sound, accepted_complete}
use Rattle.policy_record.specs.Record.{policy_hash}
use Rattle.decision.specs.Lists.{of_grammar, measure, hash_of, hash_matches}
use Rattle.decision.specs.Answers.{file_fault_of}
use Rattle.policy_writer.specs.Descriptions.{numbers_of, bodies_of, Describe}
use Rattle.policy_writer.specs.Decode.{described}
use Rattle.rules.specs.Refusal.{number_of}
use Rattle.policy_writer.specs.Answers.{record_of, refused, written, not_too_long, has_room, answer_for, buffer_for}
use Rattle.policy_writer.specs.Writing.{answer, file_in, ReadBack, ReadsBack, WritesBack, HashHolds}
use Rattle.policy_writer.proofs.Described.{described_exactly, describe_decoded}
use Rattle.policy_writer.proofs.Lent.{file_words, file_bytes_lem}

-- WHERE THE ANSWER IS 0

module _ (fields buffer : List ℕ) where
  -- what is answered of a reading whose file is not too long and has room, and what stands in the buffer
  record Success (r : Reading) : Type 0 where
    pub most : length (file_bytes r) ≤ largest_file
    pub answered : answer_for fields buffer (some r) ≡ written fields r
    pub stands : buffer_for buffer (some r) ≡ file_bytes r ++ drop (length (file_bytes r)) buffer

  succeeds : (r : Reading) → length (file_bytes r) ≤ largest_file → length (file_bytes r) ≤ length buffer → Success r
  succeeds r m h =
      let x : not_too_long r ≡ true = le-leb (length (file_bytes r)) largest_file m in
      let y : has_room buffer r ≡ true = le-leb (length (file_bytes r)) (length buffer) h in
      record { most = m; answered = rw (x, y); stands = rw (x, y) }

  zero_succeeds : (r : Reading) → number_of (answer_for fields buffer (some r)) ≡ 0 → Success r
  zero_succeeds r e = go (not_too_long r) (has_room buffer r) refl refl e
    where
      go : (x y : Bool) → not_too_long r ≡ x → has_room buffer r ≡ y → number_of (cond x (cond y (written fields r) (refused 33)) (refused 32)) ≡ 0 → Success r
      go false y i j h = absurd (omega arith)
      go true false i j h = absurd (omega arith)
      go true true i j h = succeeds r (leb-true (length (file_bytes r)) largest_file i) (leb-true (length (file_bytes r)) (length buffer) j)

  zero_some : (o : Option Reading) → number_of (answer_for fields buffer o) ≡ 0 → (r : Reading) × (o ≡ some r)
  zero_some none e = absurd (omega arith)
  zero_some (some r) e = (r, refl)

-- READING AND WRITING

read_back : (ns bs fields buffer : List ℕ) (r : Reading) → described ns bs ≡ some r → Describe ns bs r → Success fields buffer r → ReadBack ns bs (file_in ns bs fields buffer)
read_back ns bs fields buffer r i d s =
    record {
      reading = r;
      read =
          rw (i, s.answered, s.stands, take-append_seam (file_bytes r) (drop (length (file_bytes r)) buffer))
          (accepted_complete r (file_bytes r) (record { valid = d.valid; made = refl }) s.most);
      describes = d;
    }

pub reads_back : ReadsBack
reads_back ns bs fields buffer w b e =
    let (r, i) = zero_some fields buffer (described ns bs) e in
    read_back ns bs fields buffer r i ((described_exactly ns bs r w b).0 i) (zero_succeeds fields buffer r (rw i at e))

pub writes_back : WritesBack
writes_back file r fields buffer b e u room =
    let (m, z) = accepted_sound file r b e in
    let most : length file ≤ largest_file = leb-true (length file) largest_file ((and-eq-true_iff (leb least_file (length file)) _).0 z).1 in
    let d : described (numbers_of r) (bodies_of r) ≡ some r =
    describe_decoded (numbers_of r) (bodies_of r) r (record { valid = m.valid; describable = u; numbered = refl; embodied = refl }) in
    let s = succeeds fields buffer r (rw m.made most) (rw m.made room) in
    record {
      words = file_words r m.valid;
      bytes = file_bytes_lem r (subst Bytes (sym m.made) b);
      number = rw (d, s.answered);
      size = rw (d, s.answered, m.made);
      stands = rw (d, s.stands, m.made);
    }

-- THE HASH

-- a hash behind 38 bytes is PolicyHash of the record
hash_stands : (fields h : List ℕ) → length fields ≡ 38 → length h ≡ 32 → policy_hash (fields ++ h) ≡ h
hash_stands fields h l k = rw (drop_at fields h 38 l) (take_all 32 h (omega arith))

length_hash_of : (ls : List PolicyList) → length (hash_of ls) ≡ 32
unfolding hash_of
length_hash_of ls = length_sha256 (flat_map measure ls)

-- a file that is accepted, with a record that holds the hash of its lists, passes both rules
no_fault : (file rec : List ℕ) (r : Reading) → accepted file ≡ some r → policy_hash rec ≡ hash_of r.lists → file_fault_of file rec ≡ record { number = 0; place = 0 }
unfolding of_grammar hash_matches
no_fault file rec r e h =
    let g : of_grammar file ≡ true = ap is_some e in
    let m : hash_matches file rec ≡ true = rw (e, h) (same_refl (hash_of r.lists)) in
    rw (g, m)

pub hash_holds : HashHolds
hash_holds ns bs fields buffer w b l e =
    let back = reads_back ns bs fields buffer w b e in
    let r : Reading = back.reading in
    let i : described ns bs ≡ some r = describe_decoded ns bs r back.describes in
    let s = zero_succeeds fields buffer r (rw i at e) in
    let h : policy_hash (record_of (answer ns bs fields buffer)) ≡ hash_of r.lists = rw (i, s.answered) (hash_stands fields (hash_of r.lists) l (length_hash_of r.lists)) in
    no_fault (file_in ns bs fields buffer) (record_of (answer ns bs fields buffer)) r back.read h
