-- Reading from the front of a string, field by field in file order: a value and the number of bytes that it takes, or a fault.
-- A fault is an offset from the string's first byte: that of the first field that does not fit or breaks its rule, or that of the
-- first byte after the last field of a part that is longer. specs/Fault.antt says this without the reading.
use Rattle.std.specs.Prelude.{ℕ, ◌+◌, ◌-◌, Bool, true, false, cond, ◌&&◌, List, length, take, drop, leb, eqb}
use Rattle.std.proofs.Math.Option.{Option, some, none}
use Rattle.policy_grammar.specs.Format.{Format, done, field, part, bytes_left}

pub data Read (A : Type 0) : Type 0 where
  value : A → ℕ → Read A
  fault : ℕ → Read A

-- the value that was read, with the offset of a fault forgotten
abbrev pub value_of : {A : Type 0} → Read A → Option A
value_of (value a n) = some a
value_of (fault p) = none

-- there is one
abbrev pub is_some : {A : Type 0} → Option A → Bool
is_some none = false
is_some (some a) = true

-- the offset of the fault, 0 where a value was read
abbrev pub fault_of : {A : Type 0} → Read A → ℕ
fault_of (value a n) = 0
fault_of (fault p) = p

-- what reads from the front of what is left of the part that holds it
abbrev pub Parser : Type 0 → Type 0
Parser A = List ℕ → Read A

-- what was read n bytes into a string
unfoldable pub after : {A : Type 0} → ℕ → Read A → Read A
after n (value a k) = value a (n + k)
after n (fault p) = fault (n + p)

-- what follows a value; a fault stays where it is
unfoldable pub continue : {A B : Type 0} → (A → Parser B) → List ℕ → Read A → Read B
continue f s (value a n) = after n (f a (drop n s))
continue f s (fault p) = fault p

-- what fills a part of n bytes
unfoldable pub exactly : {A : Type 0} → ℕ → Read A → Read A
exactly n (value a k) = cond (eqb k n) (value a k) (fault k)
exactly n (fault p) = fault p

-- a string by its format
unfoldable pub read : {A : Type 0} → Format A → Parser A
read (done a) s = value a 0
read (field k rule next) s =
    cond (leb k (length s) && rule (length s - k) (take k s)) (after k (read (next (take k s)) (drop k s))) (fault 0)
read (part n inner next) s = continue (λ b. read (next b)) s (exactly n (read inner (take n s)))
read (bytes_left next) s = read (next (length s)) s

-- what fills a string
abbrev pub filling : {A : Type 0} → Format A → Parser A
filling F s = exactly (length s) (read F s)
