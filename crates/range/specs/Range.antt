-- Ranges of physical memory, in whole numbers: no sum wraps. A range is `size` bytes from `base` on, its end not included.
use Rattle.std.specs.Prelude.{ℕ, ◌+◌, ◌^◌, ◌≤◌, ◌<◌, Bool, ◌&&◌, ◌||◌, leb, eqb}
use Rattle.range.specs.declared.Range.{Range}

-- a page of memory has 4,096 bytes
abbrev pub page_size : ℕ
page_size = 4096

-- "2^52 is ours": where memory ends at the latest
abbrev pub highest_end : ℕ
highest_end = 2 ^ 52

abbrev pub end_of : Range → ℕ
end_of a = a.base + a.size

-- the byte at an address is one of the range's
pub record Has (a : Range) (address : ℕ) : Type 0 where
  pub from : a.base ≤ address
  pub to : address < end_of a

-- one inside the other
unfoldable pub inside_of : Range → Range → Bool
inside_of a b = leb b.base a.base && leb (end_of a) (end_of b)

-- clear of each other: no byte in both, so an empty range is clear of all
unfoldable pub clear_of : Range → Range → Bool
clear_of a b = (eqb a.size 0 || eqb b.size 0) || (leb (end_of a) b.base || leb (end_of b) a.base)

-- ends at or below a limit
unfoldable pub ends_by : Range → ℕ → Bool
ends_by a limit = leb (end_of a) limit
