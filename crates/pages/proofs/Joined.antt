-- The entries of a level are those of the tables that the present entries of the level above name, joined in order.
use Prim.Native.Nat.{ℕ, zero, suc, ◌+◌, ◌*◌, ◌-◌, ◌/◌, ◌≤◌, ◌<◌}
use mathlib.Core.Path.{◌≡◌, refl, sym, ◌∙◌}
use mathlib.Core.Bool.{Bool, true, false, cond}
use mathlib.Core.List.{List, [], ◌∷◌, ◌++◌, flat_map}
use native.Mathlib.Nat.{mul-zero, mul-suc}
use native.Mathlib.Omega.{arith}
use Rattle.pages.specs.declared.Kind.{Kind}
use Rattle.pages.specs.declared.Kind.TheVariants.{Pointer, Directory, Page}
use Rattle.pages.specs.Entry.{present_of}
use Rattle.pages.specs.Tables.{Found, entries, under_of, pointer_at, directory_at, page_at, found_of, found_from}
use Rattle.pages.proofs.Found.{found_append, found_none}

-- ABSENT TABLES

-- a page whose directory entry is absent is absent
pub page_absent : (w : List ℕ) (base t l : ℕ) → present_of (directory_at w base t (l / entries)) ≡ false → present_of (page_at w base t l) ≡ false
unfolding page_at under_of present_of
page_absent w base t l h = rw h

-- so is a directory entry whose pointer entry is absent
pub directory_absent : (w : List ℕ) (base t l : ℕ) → present_of (pointer_at w base t (l / entries)) ≡ false → present_of (directory_at w base t l) ≡ false
unfolding directory_at under_of present_of
directory_absent w base t l h = rw h

-- TABLES JOINED

-- g gives the entries of a level and f those of the level below, where each table has n entries
module _ (j k : Kind) (g f : ℕ → ℕ) (n : ℕ) (absent : (d i : ℕ) → i < n → present_of (g d) ≡ false → present_of (f (n * d + i)) ≡ false) where
  pub table_none : (d : ℕ) → present_of (g d) ≡ false → found_from k f (n * d) n ≡ []
  table_none d h = found_none k f (n * d) n one
    where
      one : (i : ℕ) → n * d ≤ i → i < n * d + n → present_of (f i) ≡ false
      one i a b =
          let e : n * d + (i - n * d) ≡ i = omega arith in
          rw e at (absent d (i - n * d) (omega arith) h)

  -- the tables that the present entries of a level name have all entries of the level below
  pub tables_joined : (d c : ℕ) → found_from k f (n * d) (n * c) ≡ flat_map (λ (e : Found). found_from k f (n * e.number) n) (found_from j g d c)
  unfolding found_from flat_map
  tables_joined d zero = rw (mul-zero n)
  tables_joined d (suc c) =
      let a : n * suc c ≡ n + n * c = mul-suc n c ∙ omega arith in
      let b : n * d + n ≡ n * suc d = omega arith ∙ sym (mul-suc n d) in
      rw (a, found_append k f (n * d) n (n * c), b) (by (present_of (g d)) refl (tables_joined (suc d) c))
    where
      by : (here : Bool) → present_of (g d) ≡ here
          → found_from k f (n * suc d) (n * c) ≡ flat_map (λ (e : Found). found_from k f (n * e.number) n) (found_from j g (suc d) c)
          → found_from k f (n * d) n ++ found_from k f (n * suc d) (n * c)
          ≡ flat_map (λ (e : Found). found_from k f (n * e.number) n) (cond here (found_of j d (g d) ∷ []) [] ++ found_from j g (suc d) c)
      by true e q = rw q
      by false e q = rw (table_none d e) q

module _ (w : List ℕ) (base t : ℕ) where
  abbrev page_table : Found → List Found
  page_table e = found_from Page (page_at w base t) (entries * e.number) entries

  abbrev directory : Found → List Found
  directory e = found_from Directory (directory_at w base t) (entries * e.number) entries

  absent_page : (d i : ℕ) → i < entries → present_of (directory_at w base t d) ≡ false → present_of (page_at w base t (entries * d + i)) ≡ false
  absent_page d i x h =
      let e : (entries * d + i) / entries ≡ d = omega arith in
      page_absent w base t (entries * d + i) (rw e h)

  absent_directory : (d i : ℕ) → i < entries → present_of (pointer_at w base t d) ≡ false → present_of (directory_at w base t (entries * d + i)) ≡ false
  absent_directory d i x h =
      let e : (entries * d + i) / entries ≡ d = omega arith in
      directory_absent w base t (entries * d + i) (rw e h)

  pub table_absent : (d : ℕ) → present_of (directory_at w base t d) ≡ false → found_from Page (page_at w base t) (entries * d) entries ≡ []
  table_absent = table_none Directory Page (directory_at w base t) (page_at w base t) entries absent_page

  pub pages_joined : (n : ℕ) → found_from Page (page_at w base t) 0 (entries * n) ≡ flat_map page_table (found_from Directory (directory_at w base t) 0 n)
  pages_joined = tables_joined Directory Page (directory_at w base t) (page_at w base t) entries absent_page 0

  pub directories_joined : (n : ℕ) → found_from Directory (directory_at w base t) 0 (entries * n) ≡ flat_map directory (found_from Pointer (pointer_at w base t) 0 n)
  directories_joined = tables_joined Pointer Directory (pointer_at w base t) (directory_at w base t) entries absent_directory 0
