-- A file of a description: the tests that lead to each answer, and the bytes that are put.
use Prim.Native.Nat.{ℕ, ◌+◌, ◌≤◌, ◌<◌}
use native.Mathlib.Omega.{arith}
use mathlib.Core.Path.{◌≡◌, ap, sym, ◌∙◌}
use mathlib.Core.Bool.{and-false}
use mathlib.Core.List.{List, [], ◌++◌, flat_map, append_assoc, append-nil}
use mathlib.Core.Option.{some}
use lib.ListN.{length, drop, get_or, length-append}
use lib.Dec.{leb}
use borrow.Author.Tests.{le-leb, lt-leb}
use Rattle.field.specs.Number.{bytes}
use Rattle.field.proofs.Laws.{length_bytes}
use Rattle.policy_grammar.specs.Grammar.{PolicyList, list_bytes, file_bytes, mark_characters}
use Rattle.policy_writer.specs.declared.Cursor.{Cursor}
use Rattle.policy_writer.specs.Types.{Next}
use Rattle.std.specs.Prelude.{Some, None}
use Rattle.policy_writer.specs.Descriptions.{list_numbers, list_bodies}
use Rattle.policy_writer.specs.Decode.{and_then, times, list, reading_with, whole_reading, described, file}
use Rattle.policy_writer.specs.Inner.{put, file_head, Start, part_at, next_of, Put}
use Rattle.policy_writer.proofs.Buffer.{put_two}
use Rattle.policy_writer.proofs.Rows.{cursor, found, found_not}
use Rattle.policy_writer.proofs.Fronts.{row_counted}

-- the bytes of a file are what is put before its lists, and those of the lists
head_length : (n : ℕ) → length (file_head n) ≡ 36
unfolding file_head flat_map mark_characters
head_length n = omega (arith, length_bytes 1 n, length-append (bytes 1 n) [])

file_bytes_lem : (ls : List PolicyList) → file_bytes (reading_with ls) ≡ file_head (length ls) ++ flat_map list_bytes ls
unfolding file_head flat_map
file_bytes_lem ls = simp (append_assoc, append-nil)

-- where the lists start
abbrev pub first : Cursor
first = record { numbers = 1; bodies = 0; bytes = 36 }

module _ (ns bs : List ℕ) where
  abbrev answer : Next
  answer = next_of file Start (part_at file ns bs Start)

  pub no_numbers : length ns < 1 → None ≡ answer
  unfolding described
  no_numbers h = rw (lt-leb 1 (length ns) h)

  module _ (h : 1 ≤ length ns) (n : ℕ) (en : n ≡ get_or ns 0 0) where
    pub no_list_lem : n < 1 → None ≡ answer
    unfolding described
    no_list_lem l = rw (le-leb 1 (length ns) h, ← en, lt-leb 1 n l)

    pub many_lists : 8 < n → None ≡ answer
    unfolding described
    many_lists l = rw (le-leb 1 (length ns) h, ← en, lt-leb n 8 l, and-false (leb 1 n))

    module _ (l : 1 ≤ n) (u : n ≤ 8) (r : Next) (er : r ≡ next_of (times n list) first (part_at (times n list) ns bs first)) where
      lists_are : part_at file ns bs Start ≡ and_then (part_at (times n list) ns bs first) (whole_reading ns bs)
      unfolding described
      lists_are = rw (le-leb 1 (length ns) h, ← en, le-leb 1 n l, le-leb n 8 u)

      pub no_lists : r ≡ None → None ≡ answer
      no_lists q = rw (lists_are, found_not (times n list) ns bs first r er q)

      module _ (d : Cursor) (q : r ≡ Some d) where
        -- the lists that were walked
        record Lists : Type 0 where
          pub some_lists : List PolicyList
          pub are : part_at (times n list) ns bs first ≡ some some_lists
          pub numbers : d.numbers ≡ 1 + length (flat_map list_numbers some_lists)
          pub bodies : d.bodies ≡ length (flat_map list_bodies some_lists)
          pub bytes : d.bytes ≡ 36 + length (flat_map list_bytes some_lists)

        walked : Lists
        walked =
            let (ls, i, w) = found (times n list) ns bs first r d er q in
            record {
              some_lists = ls;
              are = i;
              numbers = sym (ap (λ (x : Cursor). x.numbers) w);
              bodies = sym (ap (λ (x : Cursor). x.bodies) w) ∙ omega arith;
              bytes = sym (ap (λ (x : Cursor). x.bytes) w);
            }

        whole : part_at file ns bs Start ≡ whole_reading ns bs walked.some_lists
        whole = lists_are ∙ rw walked.are

        pub numbers_left : d.numbers < length ns → None ≡ answer
        numbers_left z = rw (whole, lt-leb (length ns) (1 + length (flat_map list_numbers walked.some_lists)) (omega (arith, walked.numbers)))

        pub bodies_left : d.bodies < length bs → None ≡ answer
        bodies_left z =
            rw (whole, lt-leb (length bs) (length (flat_map list_bodies walked.some_lists)) (omega (arith, walked.bodies)), and-false (leb (length ns) (1 + length (flat_map list_numbers walked.some_lists))))

        module _ (zn : length ns ≤ d.numbers) (zb : length bs ≤ d.bodies) where
          reading_is : part_at file ns bs Start ≡ some (reading_with walked.some_lists)
          reading_is =
              whole
              ∙ rw (le-leb (length ns) (1 + length (flat_map list_numbers walked.some_lists)) (omega (arith, walked.numbers)), le-leb (length bs) (length (flat_map list_bodies walked.some_lists)) (omega (arith, walked.bodies)))

          bytes_are : file_bytes (reading_with walked.some_lists) ≡ file_head n ++ flat_map list_bytes walked.some_lists
          bytes_are =
              let c : length walked.some_lists ≡ n = row_counted list n (drop 1 ns) bs walked.some_lists walked.are in
              file_bytes_lem walked.some_lists ∙ rw c

          pub file_next : Some d ≡ answer
          file_next =
              rw reading_is
              (cursor _ _ _ _ _ _ (omega (arith, walked.numbers)) (omega (arith, walked.bodies))
              (omega (arith, walked.bytes, ap length bytes_are, length-append (file_head n) (flat_map list_bytes walked.some_lists), head_length n)))

          pub file_put : (out mid later : List ℕ) → mid ≡ put out 0 (file_head n) → Put (times n list) ns bs first mid r later → (x : Next) → Put file ns bs Start out x later
          file_put out mid later e p x =
              let m : later ≡ put mid 36 (flat_map list_bytes walked.some_lists) = p.put_there d q ∙ rw walked.are in
              record {
                put_there = λ d' i.
                    put_two out 0 (file_head n) (flat_map list_bytes walked.some_lists) 36 mid later e m (omega (arith, head_length n))
                    ∙ rw reading_is (ap (put out 0) (sym bytes_are));
              }
