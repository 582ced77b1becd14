-- What the contracts of private functions say of one entry and of entries in turn, and how what the code keeps tells what was found.
use Rattle.std.specs.Prelude.{ℕ, ◌+◌, ◌-◌, ◌≤◌, ◌<◌, ◌≡◌, cond, List, eqb, Result, Ok}
use Rattle.range.specs.declared.Range.{Range}
use Rattle.range.specs.Range.{inside_of, page_size, highest_end}
use Rattle.rules.specs.declared.refusal.Refusal.{Refusal}
use Rattle.rules.specs.Refusal.{number_of, numbered}
use Rattle.rules.specs.Rules.{first_failing}
use Rattle.rules.specs.Tests.{filter}
use Rattle.pages.specs.declared.Kind.{Kind}
use Rattle.pages.specs.declared.Kind.TheVariants.{Pointer, Directory, Page}
use Rattle.pages.specs.declared.progress.Progress.{Progress}
use Rattle.pages.specs.declared.window.Window.{Window}
use Rattle.pages.specs.declared.tables.Tables.{Tables}
use Rattle.pages.specs.declared.levels.Walker.{Walker}
use Rattle.pages.specs.Memory.{Memory, window_of, memory_of, regions}
use Rattle.pages.specs.Tables.{Found, entry_at}
use Rattle.pages.specs.Rules.{State, most_tables, after_all, rules_from}

-- WHAT THE CODE IS GIVEN

-- the window, and what the walk is told of the memory
abbrev pub extent : Window → Range
extent w = window_of w.bytes.now w.base

abbrev pub told : Walker → Memory
told walker = memory_of walker.memory walker.reserved.now

-- the entry with a number in the level of its kind
abbrev pub entry_in : Kind → Tables → ℕ → ℕ
entry_in k t = entry_at k t.window.bytes.now t.window.base t.base

-- WHAT THE CODE KEEPS

-- the regions that hold the range from the first page to the last; all of them where there is no page
abbrev pub common_of : Memory → Progress → List Range
common_of m p = cond (eqb p.count 0) (regions m) (filter (inside_of p.pages) (regions m))

-- what was found, by what is kept of it
abbrev pub state_of : Memory → Progress → State
state_of m p = record { last = p.last; tables = p.tables; first = p.first; count = p.count; common = common_of m p }

-- from an address to the end of the page at a
abbrev pub up_to : ℕ → ℕ → Range
up_to from a = record { base = from; size = a - from + page_size }

-- the address of the first page, the page at a counted, and the range from there to the end of the page at a
abbrev pub first_address : Progress → ℕ → ℕ
first_address p a = cond (eqb p.count 0) a p.pages.base

abbrev pub pages_to : Progress → ℕ → Range
pages_to p a = up_to (first_address p a) a

-- an address above all that was found, and below the end of memory, so that no sum wraps
pub record Above (p : Progress) (a : ℕ) : Type 0 where
  pub above : p.last < a
  pub below : a < highest_end

-- ENTRIES TRIED

-- one more entry of a kind can be counted
abbrev pub Room : Kind → Progress → ℕ → Type 0
Room Pointer p l = p.tables < most_tables
Room Directory p l = p.tables < most_tables
Room Page p l = p.count ≤ l

-- after entries in turn: the number is that of the first rule that fails, and where none does, what is kept tells what was found
pub record Tried (window : Range) (m : Memory) (before : Progress) (after : Result Progress Refusal) (es : List Found) : Type 0 where
  pub number : number_of (numbered after) ≡ first_failing (rules_from window m (state_of m before) es)
  pub state : (p : Progress) → after ≡ Ok p → state_of m p ≡ after_all (state_of m before) es
