-- What the walk means, as plain statements: `Walked` of a walk that refuses nothing, and `Walks`, the rules that it then obeys, exactly.
use Rattle.std.specs.Prelude.{ℕ, zero, suc, ◌+◌, ◌*◌, ◌/◌, ◌%◌, ◌^◌, ◌≤◌, ◌<◌, ◌≡◌, ◌↔◌, ◌⊎◌, ◌≢◌, true, cond, List, [], ◌∷◌, ◌++◌, Err}
use Rattle.range.specs.declared.Range.{Range}
use Rattle.range.specs.Range.{Has, page_size}
use Rattle.rules.specs.Rules.{first_failing, Every, Some}
use Rattle.rules.specs.Meaning.{Meaning, meaning, FirstBroken}
use Rattle.rules.specs.Refusal.{number_of}
use Rattle.pages.specs.declared.Kind.{Kind}
use Rattle.pages.specs.declared.Kind.TheVariants.{Pointer, Directory, Page}
use Rattle.pages.specs.Entry.{present_of, address_of}
use Rattle.pages.specs.Memory.{Memory, page_of, window_of, forbidden, regions, holding}
use Rattle.pages.specs.Tables.{entry_at, level_size, Found, found}
use Rattle.pages.specs.Rules.{State, most_tables, start_of, after_entry, walk_rules, mapped, walk_of}

-- RANGES

-- every byte of one is a byte of the other; no byte is in both
abbrev pub Within : Range → Range → Type 0
Within a b = (x : ℕ) → Has a x → Has b x

abbrev pub Apart : Range → Range → Type 0
Apart a b = (x : ℕ) → Has a x → Has b x → ⊥

-- one of these regions holds all bytes of a page
abbrev pub Protected : List Range → Range → Type 0
Protected rs page = Some (Within page) rs

-- BITS

-- bit i of a number, 0 the lowest
abbrev pub bit_of : ℕ → ℕ → ℕ
bit_of e i = e / 2 ^ i % 2

-- the bits from i to j are 0
abbrev pub ZeroBits : ℕ → ℕ → ℕ → Type 0
ZeroBits e i j = (k : ℕ) → i ≤ k → k ≤ j → bit_of e k ≡ 0

-- "Bits 52 to 63 are 0; in a pointer entry also bits 1, 2 and 5 to 8; in a directory entry also bit 7."
abbrev pub Reserved : Kind → ℕ → Type 0
Reserved Pointer e = ZeroBits e 52 63 × (ZeroBits e 1 2 × ZeroBits e 5 8)
Reserved Directory e = ZeroBits e 52 63 × ZeroBits e 7 7
Reserved Page e = ZeroBits e 52 63

-- ORDER

-- breadth-first order as one number: the level first, then the entry's number in it
abbrev pub rank : Kind → ℕ
rank Pointer = 0
rank Directory = 1
rank Page = 2

abbrev pub position : Kind → ℕ → ℕ
position k l = rank k * level_size Page + l

-- how many of the entries with numbers below n are present
unfoldable pub present_below : (ℕ → ℕ) → ℕ → ℕ
present_below f zero = 0
present_below f (suc n) = present_below f n + cond (present_of (f n)) 1 0

module _ (w : List ℕ) (m : Memory) (t : ℕ) where
  abbrev pub entry : Kind → ℕ → ℕ
  entry k l = entry_at k w m.window t l

  abbrev pub Present : Kind → ℕ → Type 0
  Present k l = present_of (entry k l) ≡ true

  -- the page of memory that an entry names
  abbrev pub named : Kind → ℕ → Range
  named k l = page_of (address_of (entry k l))

  -- a region holds every page
  abbrev pub HoldsPages : Range → Type 0
  HoldsPages r = (l : ℕ) → Present Page l → Within (named Page l) r

  -- THE RULES. 15 and 17 for the page of memory at an address
  pub record Placed (page : Range) : Type 0 where
    pub inside : Within page (window_of w m.window)
    pub clear : Every (Apart page) (forbidden m)

  -- "every table page, the base too, must lie wholly in any one of the three regions"
  pub record TablesProtected : Type 0 where
    pub base : Protected (regions m) (page_of t)
    pub directories : (l : ℕ) → Present Pointer l → Protected (regions m) (named Pointer l)
    pub page_tables : (l : ℕ) → Present Directory l → Protected (regions m) (named Directory l)

  -- rules 14 to 20 hold, with n pages from linear page f on
  pub record Walks (f n : ℕ) : Type 0 where
    pub aligned : t % page_size ≡ 0
    pub base_placed : Placed (page_of t)
    pub reserved : (k : Kind) (l : ℕ) → Present k l → Reserved k (entry k l)
    pub placed : (k : Kind) (l : ℕ) → Present k l → Placed (named k l)
    pub above : (k : Kind) (l : ℕ) → Present k l → t < address_of (entry k l)
    pub rising : (j k : Kind) (i l : ℕ) → Present j i → Present k l → position j i < position k l → address_of (entry j i) < address_of (entry k l)
    pub tables : 1 + present_below (entry Pointer) (level_size Pointer) + present_below (entry Directory) (level_size Directory) ≤ most_tables
    pub pages : (l : ℕ) → f ≤ l → l < f + n → Present Page l
    pub only : (l : ℕ) → Present Page l → (f ≤ l) × (l < f + n)
    -- where there is no page the first is 0
    pub no_page : n ≡ 0 → f ≡ 0
    -- "all N pages lie in the same one of the three"
    pub protected : Some HoldsPages (regions m)
    pub tables_protected : TablesProtected

  -- WHAT WAS FOUND. The n pages from linear page f on are found through the tables, and no others
  pub record Walked (f n : ℕ) : Type 0 where
    pub present : (k : ℕ) → k < n → Present Page (f + k)
    pub only : (l : ℕ) → Present Page l → (f ≤ l) × (l < f + n)
    pub rising : (j k : ℕ) → j < k → k < n → address_of (entry Page (f + j)) < address_of (entry Page (f + k))
    pub inside : (k : ℕ) → k < n → Within (named Page (f + k)) (window_of w m.window)
    -- no page overlaps another page, the base or another table
    pub apart : (j k : ℕ) → j < n → k < n → j ≢ k → Apart (named Page (f + j)) (named Page (f + k))
    pub base : (k : ℕ) → k < n → Apart (named Page (f + k)) (page_of t)
    pub directories : (k i : ℕ) → k < n → Present Pointer i → Apart (named Page (f + k)) (named Pointer i)
    pub page_tables : (k i : ℕ) → k < n → Present Directory i → Apart (named Page (f + k)) (named Directory i)
    pub clear : (k : ℕ) → k < n → Every (Apart (named Page (f + k))) (forbidden m)
    pub protected : Some (λ (r : Range). (k : ℕ) → k < n → Within (named Page (f + k)) r) (regions m)

-- THE RULES IN ORDER

-- "The base is tried for 14, 15, 17", and "for the base after 17" for 20
abbrev pub base_meanings : Range → Memory → ℕ → List Meaning
base_meanings window m base =
    meaning 14 (base % page_size ≡ 0)
    ∷ meaning 15 (Within (page_of base) window)
    ∷ meaning 17 (Every (Apart (page_of base)) (forbidden m))
    ∷ meaning 20 (Protected (regions m) (page_of base))
    ∷ []

-- "then a table for 18" and 20, where s was found before
abbrev pub table_meanings : Memory → State → ℕ → List Meaning
table_meanings m s a = meaning 18 (s.tables < most_tables) ∷ meaning 20 (Protected (regions m) (page_of a)) ∷ []

-- "and a page for 19, 20"
abbrev pub own_meanings : Kind → Memory → State → ℕ → ℕ → List Meaning
own_meanings Pointer m s l a = table_meanings m s a
own_meanings Directory m s l a = table_meanings m s a
own_meanings Page m s l a =
    meaning 19 ((s.count ≡ 0) ⊎ (l ≡ s.first + s.count)) ∷ meaning 20 (Protected s.common (page_of a)) ∷ []

-- "An entry is tried for 14, 15, 16, 17;"
abbrev pub entry_meanings : Kind → Range → Memory → State → ℕ → ℕ → List Meaning
entry_meanings k window m s l e =
    meaning 14 (Reserved k e)
    ∷ meaning 15 (Within (page_of (address_of e)) window)
    ∷ meaning 16 (s.last < address_of e)
    ∷ meaning 17 (Every (Apart (page_of (address_of e))) (forbidden m))
    ∷ own_meanings k m s l (address_of e)

unfoldable pub meanings_from : Range → Memory → State → List Found → List Meaning
meanings_from window m s [] = []
meanings_from window m s (e ∷ es) =
    entry_meanings e.kind window m s e.number e.entry ++ meanings_from window m (after_entry s e) es

-- those of the base, then those of each entry that is present, in breadth-first order
abbrev pub walk_meanings : List ℕ → Memory → ℕ → List Meaning
walk_meanings w m t =
    base_meanings (window_of w m.window) m t ++ meanings_from (window_of w m.window) m (start_of m t) (found w m.window t)

-- the regions that are left with a page are those that hold all its bytes: what is so of one of the former is so of one of the latter, and conversely
abbrev pub HoldingMeans : Type 1
HoldingMeans = (rs : List Range) (a : ℕ) (P : Range → Type 0) → Some P (holding rs a) ↔ Some (λ (r : Range). Within (page_of a) r × P r) rs

-- the number of the answer is that of the first rule that fails
abbrev pub NumberIsFirst : Type 0
NumberIsFirst = (w : List ℕ) (m : Memory) (t : ℕ) → number_of (walk_of w m t) ≡ first_failing (walk_rules w m t)

-- pages are mapped exactly where the rules hold with them
abbrev pub MappedExactly : Type 0
MappedExactly = (w : List ℕ) (m : Memory) (t f n : ℕ) → (walk_of w m t ≡ mapped f n) ↔ Walks w m t f n

-- a number is answered exactly where it is that of the first rule that is broken
abbrev pub RefusedExactly : Type 0
RefusedExactly = (w : List ℕ) (m : Memory) (t n : ℕ) → (walk_of w m t ≡ Err n) ↔ FirstBroken (walk_meanings w m t) n

-- what a walk that refuses nothing has found
abbrev pub FoundByWalk : Type 0
FoundByWalk = (w : List ℕ) (m : Memory) (t f n : ℕ) → walk_of w m t ≡ mapped f n → Walked w m t f n
