-- Where the lists of a policy file begin, and how many bytes it has.
use Rattle.std.specs.Prelude.{ℕ, Bool, ◌&&◌, List, length, leb}

-- the lists stand behind the mark, the zeros and the list count
abbrev pub first_list : ℕ
first_list = 36

-- "36 to 65,536 bytes": no file is shorter than what stands before its lists
abbrev pub least_file : ℕ
least_file = first_list

abbrev pub largest_file : ℕ
largest_file = 65536

abbrev pub sized : List ℕ → Bool
sized s = leb least_file (length s) && leb (length s) largest_file
