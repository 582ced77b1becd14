-- The rules of the walk, in the order they are tried: those of the base, then those of each entry that is present, in breadth-first order.
use Rattle.std.specs.Prelude.{ℕ, ◌+◌, ◌%◌, Bool, cond, ◌||◌, List, [], ◌∷◌, ◌++◌, ltb, eqb, Result, Ok, Err}
use Rattle.range.specs.declared.Range.{Range}
use Rattle.range.specs.Range.{inside_of, page_size}
use Rattle.rules.specs.Rules.{Rule, rule, first_failing, answer_for}
use Rattle.pages.specs.declared.Kind.{Kind}
use Rattle.pages.specs.declared.Kind.TheVariants.{Pointer, Directory, Page}
use Rattle.pages.specs.declared.Mapped.{Mapped}
use Rattle.pages.specs.Entry.{address_of, reserved_clear}
use Rattle.pages.specs.Memory.{Memory, page_of, window_of, regions, allowed, protected, holding}
use Rattle.pages.specs.Tables.{Found, found}

-- at most "40 tables in all", "the base and directories counted"
abbrev pub most_tables : ℕ
most_tables = 40

-- what was found so far: the last address, how many tables, the first linear page and how many pages, and the regions that hold all these pages
pub record State : Type 0 where
  pub last : ℕ
  pub tables : ℕ
  pub first : ℕ
  pub count : ℕ
  pub common : List Range

-- "the first one the base"
abbrev pub start_of : Memory → ℕ → State
start_of m base = record { last = base; tables = 1; first = 0; count = 0; common = regions m }

abbrev pub after_table : State → ℕ → State
after_table s a = record { last = a; tables = s.tables + 1; first = s.first; count = s.count; common = s.common }

abbrev pub after_page : State → ℕ → ℕ → State
after_page s l a = record { last = a; tables = s.tables; first = cond (eqb s.count 0) l s.first; count = s.count + 1; common = holding s.common a }

-- after an entry with a number of its level and an address
abbrev pub after : Kind → State → ℕ → ℕ → State
after Pointer s l a = after_table s a
after Directory s l a = after_table s a
after Page s l a = after_page s l a

abbrev pub after_entry : State → Found → State
after_entry s e = after e.kind s e.number (address_of e.entry)

abbrev pub after_all : State → List Found → State
after_all s [] = s
after_all s (e ∷ es) = after_all (after_entry s e) es

-- "The base is tried for 14, 15, 17", and "for the base after 17" for 20
abbrev pub base_rules : Range → Memory → ℕ → List Rule
base_rules window m base =
    rule 14 (eqb (base % page_size) 0)
    ∷ rule 15 (inside_of (page_of base) window)
    ∷ rule 17 (allowed m base)
    ∷ rule 20 (protected (regions m) base)
    ∷ []

-- "Linear pages follow one another without a gap from the first."
unfoldable pub follows : ℕ → ℕ → ℕ → Bool
follows first count l = eqb count 0 || eqb l (first + count)

-- a table lies "wholly in any one of the three regions, or the answer is 20, tried after 18"
abbrev pub table_rules : Memory → State → ℕ → List Rule
table_rules m s a = rule 18 (ltb s.tables most_tables) ∷ rule 20 (protected (regions m) a) ∷ []

-- "then a table for 18" and 20, "and a page for 19, 20": "a page that leaves no common region gives 20, at that page"
abbrev pub own_rules : Kind → Memory → State → ℕ → ℕ → List Rule
own_rules Pointer m s l a = table_rules m s a
own_rules Directory m s l a = table_rules m s a
own_rules Page m s l a = rule 19 (follows s.first s.count l) ∷ rule 20 (protected s.common a) ∷ []

-- "An entry is tried for 14, 15, 16, 17;" .. "Every address found must exceed the one before it in this breadth-first order"
abbrev pub entry_rules : Kind → Range → Memory → State → ℕ → ℕ → List Rule
entry_rules k window m s l e =
    rule 14 (reserved_clear k e)
    ∷ rule 15 (inside_of (page_of (address_of e)) window)
    ∷ rule 16 (ltb s.last (address_of e))
    ∷ rule 17 (allowed m (address_of e))
    ∷ own_rules k m s l (address_of e)

-- the rules of entries in turn
unfoldable pub rules_from : Range → Memory → State → List Found → List Rule
rules_from window m s [] = []
rules_from window m s (e ∷ es) =
    entry_rules e.kind window m s e.number e.entry ++ rules_from window m (after_entry s e) es

-- all rules of the walk from the table base t
unfoldable pub walk_rules : List ℕ → Memory → ℕ → List Rule
walk_rules w m t =
    base_rules (window_of w m.window) m t ++ rules_from (window_of w m.window) m (start_of m t) (found w m.window t)

-- what was found when all entries were tried
unfoldable pub end_state : List ℕ → Memory → ℕ → State
end_state w m t = after_all (start_of m t) (found w m.window t)

-- n pages are mapped from the linear page f on
abbrev pub mapped : ℕ → ℕ → Result Mapped ℕ
mapped f n = Ok (record { first = f; count = n })

-- the answer for a number: 0 gives the first linear page and how many there are, every other is a refusal
unfoldable pub answer_of : ℕ → State → Result Mapped ℕ
answer_of n s = answer_for Err (mapped s.first s.count) n

unfoldable pub walk_of : List ℕ → Memory → ℕ → Result Mapped ℕ
walk_of w m t = answer_of (first_failing (walk_rules w m t)) (end_state w m t)
