-- The entries of a window's tables are read without computing over its bytes, so the number of its walk is that of a few rules.
use Prim.Native.Nat.{ℕ, zero, suc, ◌+◌, ◌-◌, ◌*◌, ◌/◌, ◌%◌, ◌^◌, ◌≤◌, ◌<◌}
use mathlib.Core.Path.{◌≡◌, refl, sym, ◌∙◌}
use mathlib.Core.Bool.{true}
use mathlib.Core.List.{List, [], ◌∷◌, ◌++◌, flat_map, append-nil, append_assoc}
use native.Mathlib.Omega.{arith}
use lib.Dec.{lit<}
use lib.ListN.{length, get_or, drop, length-append, length-replicate, length-drop}
use lib.Seq.{drop-append-le, drop-append-add}
use Rattle.field.specs.Number.{bytes, number}
use Rattle.field.proofs.Laws.{length_bytes, number_bytes, number_at_fits}
use Rattle.range.specs.Range.{inside_of}
use Rattle.range.proofs.Ranges.{inside_bounds}
use Rattle.rules.specs.Rules.{first_failing}
use Rattle.pages.specs.declared.Kind.{Kind}
use Rattle.pages.specs.declared.Kind.TheVariants.{Pointer, Directory, Page}
use Rattle.pages.specs.Entry.{present_of, address_of}
use Rattle.pages.specs.Memory.{page_of, window_of}
use Rattle.pages.specs.Tables.{read_of, under_of, pointer_at, directory_at, page_at, Found, found_of, found_from, found_in, found}
use Rattle.pages.specs.Rules.{start_of, base_rules, rules_from, walk_rules}
use Rattle.pages.proofs.Tests.{read_inside}
use Rattle.pages.proofs.Found.{found_listed}
use Rattle.pages.proofs.Joined.{pages_joined, directories_joined}
use Rattle.pages.proofs.Meaning.{number_is_first}
use Rattle.proved_cases.specs.Modules.{zeros}
use Rattle.proved_cases.specs.Windows.{range, entry_of, entry_bytes, table_with, window_base, window_with, memory}
use Rattle.proved_cases.specs.Table.{walk_number}

-- ZEROS

drop_zeros : (i n : ℕ) → drop i (zeros n) ≡ zeros (n - i)
drop_zeros zero n = let e : n - 0 ≡ n = omega arith in rw e
drop_zeros (suc i) zero = let e : 0 - suc i ≡ 0 = omega arith in rw e
drop_zeros (suc i) (suc n) = let e : suc n - suc i ≡ n - i = omega arith in rw e (drop_zeros i n)

length_zeros : (n : ℕ) → length (zeros n) ≡ n
length_zeros n = length-replicate n 0

number_zeros : (width n : ℕ) → number width (zeros n) ≡ 0
unfolding number
number_zeros zero n = refl
number_zeros (suc width) zero = refl
number_zeros (suc width) (suc n) = omega (arith, number_zeros width n)

-- TABLES

abbrev Entries : List ℕ → Type 0
Entries [] = Unit
Entries (e ∷ es) = (e < 256 ^ 8) × Entries es

entry_bytes_lem : (es : List ℕ) (n i : ℕ) → Entries es → number 8 (drop (8 * i) (entry_bytes es ++ zeros n)) ≡ get_or es i 0
entry_bytes_lem [] n i h = rw (drop_zeros (8 * i) n) (number_zeros 8 (n - 8 * i))
entry_bytes_lem (e ∷ es) n zero h = rw (append_assoc (bytes 8 e) (entry_bytes es) (zeros n)) (number_bytes 8 e (entry_bytes es ++ zeros n) h.0)
entry_bytes_lem (e ∷ es) n (suc i) h =
    let skip : 8 * suc i ≡ length (bytes 8 e) + 8 * i = omega (arith, length_bytes 8 e) in
    rw (append_assoc (bytes 8 e) (entry_bytes es) (zeros n), skip, drop-append-add (bytes 8 e) (entry_bytes es ++ zeros n) (8 * i))
    (entry_bytes_lem es n i h.1)

length_entries : (es : List ℕ) → length (entry_bytes es) ≡ 8 * length es
length_entries [] = refl
length_entries (e ∷ es) = length-append (bytes 8 e) (entry_bytes es) ∙ omega (arith, length_bytes 8 e, length_entries es)

length_padded : (es : List ℕ) (n : ℕ) → length (entry_bytes es ++ zeros n) ≡ 8 * length es + n
length_padded es n = rw (length-append (entry_bytes es) (zeros n), length_entries es, length_zeros n)

pub length_table : (es : List ℕ) → length es ≤ 512 → length (table_with es) ≡ 4096
unfolding table_with
length_table es h = length_padded es (4096 - 8 * length es) ∙ omega arith

number_front : (width : ℕ) (s t : List ℕ) → width ≤ length s → number width (s ++ t) ≡ number width s
unfolding number
number_front zero s t h = refl
number_front (suc width) [] t h = absurd (omega arith)
number_front (suc width) (b ∷ s) t h = rw (number_front width s t (omega arith))

entry_number : (es : List ℕ) (i : ℕ) → Entries es → number 8 (drop (8 * i) (table_with es)) ≡ get_or es i 0
unfolding table_with
entry_number es i h = entry_bytes_lem es (4096 - 8 * length es) i h

-- A TABLE IN A WINDOW, after some bytes and before others

module _ (before after es : List ℕ) (base at : ℕ) (small : length es ≤ 512) (fit : Entries es) (from : base ≤ at) (start : at - base ≡ length before) where
  abbrev whole : List ℕ
  whole = before ++ (table_with es ++ after)

  length_whole : length whole ≡ length before + (4096 + length after)
  length_whole = rw (length-append before (table_with es ++ after), length-append (table_with es) after, length_table es small)

  in_whole : inside_of (page_of at) (window_of whole base) ≡ true
  in_whole = (inside_bounds (page_of at) (window_of whole base)).1 (from, omega (arith, length_whole))

  rest_number : (i : ℕ) → i < 512 → number 8 (drop (8 * i) (table_with es ++ after)) ≡ get_or es i 0
  rest_number i h =
      let room : 8 * i ≤ length (table_with es) = omega (arith, length_table es small) in
      let left : 8 ≤ length (drop (8 * i) (table_with es)) = omega (arith, length-drop (8 * i) (table_with es), length_table es small) in
      rw (drop-append-le (8 * i) (table_with es) after room) (number_front 8 (drop (8 * i) (table_with es)) after left ∙ entry_number es i fit)

  pub table_read : (n i : ℕ) → n ≤ 512 → i < n → read_of whole base at n i ≡ get_or es i 0
  table_read n i most h =
      sym (read_inside whole base at n i h in_whole)
      ∙ number_at_fits whole (at - base + 8 * i) 8 (omega arith) (omega arith) (omega (arith, length_whole))
      ∙ rw (start, drop-append-add before (table_with es ++ after) (8 * i)) (rest_number i (omega arith))

-- THE WINDOW

single : (k : Kind) (e : ℕ) → present_of e ≡ true → found_from k (λ (i : ℕ). get_or (e ∷ []) i 0) 0 (length (e ∷ [])) ≡ found_of k 0 e ∷ []
unfolding found_from
single k e h = rw h

joined_single : (table : Found → List Found) (e : Found) → flat_map table (e ∷ []) ≡ table e
unfolding flat_map
joined_single table e = append-nil (table e)

abbrev first : List ℕ
first = entry_of 0x102000 ∷ []

abbrev second : List ℕ
second = entry_of 0x103000 ∷ []

first_length : length (table_with first) ≡ 4096
first_length = length_table first (omega arith)

both_length : length (table_with first ++ table_with second) ≡ 8192
both_length = length-append (table_with first) (table_with second) ∙ omega (arith, first_length, length_table second (omega arith))

module _ (pages : List ℕ) (small : length pages ≤ 512) (fit : Entries pages) where
  abbrev w : List ℕ
  w = window_with pages

  pub length_window : length w ≡ 20480
  unfolding window_with
  length_window =
      length_whole [] (table_with second ++ (table_with pages ++ zeros 8192)) first window_base window_base (omega arith) (lit< tt, tt) (omega arith) refl
      ∙ omega (
        arith,
        length-append (table_with second) (table_with pages ++ zeros 8192),
        length-append (table_with pages) (zeros 8192),
        length_table second (omega arith),
        length_table pages small,
        length_zeros 8192,
      )

  pointer_at_lem : (l : ℕ) → l < 4 → pointer_at w window_base window_base l ≡ get_or first l 0
  unfolding window_with pointer_at
  pointer_at_lem l h =
      table_read [] (table_with second ++ (table_with pages ++ zeros 8192)) first window_base window_base (omega arith) (lit< tt, tt) (omega arith) refl 4 l (omega arith) h

  read_directory : (l : ℕ) → l < 512 → read_of w window_base 0x102000 512 l ≡ get_or second l 0
  unfolding window_with
  read_directory l h =
      table_read (table_with first) (table_with pages ++ zeros 8192) second window_base 0x102000 (omega arith) (lit< tt, tt) (omega arith) (sym first_length) 512 l (omega arith) h

  read_table : (l : ℕ) → l < 512 → read_of w window_base 0x103000 512 l ≡ get_or pages l 0
  unfolding window_with
  read_table l h =
      rw (← append_assoc (table_with first) (table_with second) (table_with pages ++ zeros 8192))
      (table_read (table_with first ++ table_with second) (zeros 8192) pages window_base 0x103000 small fit (omega arith) (sym both_length) 512 l (omega arith) h)

  directory_at_lem : (l : ℕ) → l < 512 → directory_at w window_base window_base l ≡ get_or second l 0
  unfolding directory_at under_of present_of address_of
  directory_at_lem l h =
      let a : l / 512 ≡ 0 = omega arith in
      let b : l % 512 ≡ l = omega arith in
      rw (a, b, pointer_at_lem 0 (omega arith)) (read_directory l h)

  page_at_lem : (l : ℕ) → l < 512 → page_at w window_base window_base l ≡ get_or pages l 0
  unfolding page_at under_of present_of address_of
  page_at_lem l h =
      let a : l / 512 ≡ 0 = omega arith in
      let b : l % 512 ≡ l = omega arith in
      rw (a, b, directory_at_lem 0 (omega arith)) (read_table l h)

  found_pointers : found_from Pointer (pointer_at w window_base window_base) 0 4 ≡ found_of Pointer 0 (entry_of 0x102000) ∷ []
  unfolding present_of
  found_pointers =
      found_listed Pointer (pointer_at w window_base window_base) first 4 (omega arith) pointer_at_lem ∙ single Pointer (entry_of 0x102000) refl

  found_directories : found_from Directory (directory_at w window_base window_base) 0 2048 ≡ found_of Directory 0 (entry_of 0x103000) ∷ []
  unfolding present_of
  found_directories =
      directories_joined w window_base window_base 4
      ∙ rw found_pointers (joined_single _ (found_of Pointer 0 (entry_of 0x102000)))
      ∙ found_listed Directory (directory_at w window_base window_base) second 512 (omega arith) directory_at_lem
      ∙ single Directory (entry_of 0x103000) refl

  abbrev listed : List Found
  listed = found_from Page (λ (l : ℕ). get_or pages l 0) 0 (length pages)

  found_pages : found_from Page (page_at w window_base window_base) 0 1048576 ≡ listed
  found_pages =
      pages_joined w window_base window_base 2048
      ∙ rw found_directories (joined_single _ (found_of Directory 0 (entry_of 0x103000)))
      ∙ found_listed Page (page_at w window_base window_base) pages 512 small page_at_lem

  found_all : found w window_base window_base ≡ found_of Pointer 0 (entry_of 0x102000) ∷ found_of Directory 0 (entry_of 0x103000) ∷ listed
  unfolding found found_in
  found_all = rw (found_pointers, found_directories, found_pages)

  pub window_number : walk_number pages
      ≡ first_failing
      (base_rules (range window_base 20480) memory window_base
      ++ rules_from (range window_base 20480) memory (start_of memory window_base) (found_of Pointer 0 (entry_of 0x102000) ∷ found_of Directory 0 (entry_of 0x103000) ∷ listed))
  unfolding walk_number walk_rules
  window_number = number_is_first w memory window_base ∙ rw (length_window, found_all)
