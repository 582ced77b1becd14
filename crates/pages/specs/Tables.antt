-- The entries of the three levels, each found by its number: w is the window, which begins at `base`, and t the table base.
use Rattle.std.specs.Prelude.{ℕ, zero, suc, ◌+◌, ◌*◌, ◌-◌, ◌/◌, ◌%◌, cond, ◌&&◌, List, [], ◌∷◌, ◌++◌, ltb}
use Rattle.field.specs.Field.{number_at}
use Rattle.range.specs.Range.{inside_of}
use Rattle.pages.specs.declared.Kind.{Kind}
use Rattle.pages.specs.declared.Kind.TheVariants.{Pointer, Directory, Page}
use Rattle.pages.specs.Entry.{present_of, address_of}
use Rattle.pages.specs.Memory.{page_of, window_of}

-- "The table base is a pointer table of 4 entries of 64 bits; directories and page tables have 512."
abbrev pub pointers : ℕ
pointers = 4

abbrev pub entries : ℕ
entries = 512

-- entry i of the n of the table at the address a; 0, which is not present, where there is none
unfoldable pub read_of : List ℕ → ℕ → ℕ → ℕ → ℕ → ℕ
read_of w base a n i = cond (ltb i n && inside_of (page_of a) (window_of w base)) (number_at w (a - base + 8 * i) 8) 0

-- entry i of the table that the entry e names
unfoldable pub under_of : List ℕ → ℕ → ℕ → ℕ → ℕ
under_of w base e i = cond (present_of e) (read_of w base (address_of e) entries i) 0

-- the entry with a number in its level: the table that holds it is found by the number divided by 512, the entry in it by the remainder
unfoldable pub pointer_at : List ℕ → ℕ → ℕ → ℕ → ℕ
pointer_at w base t l = read_of w base t pointers l

unfoldable pub directory_at : List ℕ → ℕ → ℕ → ℕ → ℕ
directory_at w base t l = under_of w base (pointer_at w base t (l / entries)) (l % entries)

-- the number of a page-table entry is that of its linear page
unfoldable pub page_at : List ℕ → ℕ → ℕ → ℕ → ℕ
page_at w base t l = under_of w base (directory_at w base t (l / entries)) (l % entries)

abbrev pub entry_at : Kind → List ℕ → ℕ → ℕ → ℕ → ℕ
entry_at Pointer = pointer_at
entry_at Directory = directory_at
entry_at Page = page_at

-- how many entries a level has
abbrev pub level_size : Kind → ℕ
level_size Pointer = pointers
level_size Directory = pointers * entries
level_size Page = pointers * entries * entries

-- an entry that is present, with its kind and its number
pub record Found : Type 0 where
  pub kind : Kind
  pub number : ℕ
  pub entry : ℕ

abbrev pub found_of : Kind → ℕ → ℕ → Found
found_of k l e = record { kind = k; number = l; entry = e }

-- the entry with a number, where it is present
abbrev pub found_one : Kind → ℕ → ℕ → List Found
found_one k l e = cond (present_of e) (found_of k l e ∷ []) []

-- those present of n entries of a level, from number l on; f gives the entry with a number
unfoldable pub found_from : Kind → (ℕ → ℕ) → ℕ → ℕ → List Found
found_from k f l zero = []
found_from k f l (suc n) = found_one k l (f l) ++ found_from k f (suc l) n

unfoldable pub found_in : Kind → List ℕ → ℕ → ℕ → List Found
found_in k w base t = found_from k (entry_at k w base t) 0 (level_size k)

-- "the pointer entries, all directory entries, all page-table entries, by rising index"
unfoldable pub found : List ℕ → ℕ → ℕ → List Found
found w base t = found_in Pointer w base t ++ (found_in Directory w base t ++ found_in Page w base t)
