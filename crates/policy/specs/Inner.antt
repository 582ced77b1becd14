-- What the contracts of functions cite that are not public.
use Rattle.std.specs.Prelude.{ℕ, zero, suc, ◌+◌, List, Option}
use Rattle.std.specs.Option.{option_and_then}

-- the one with a number of those that are read one after the other, each as many bytes on as the one before it has
abbrev pub walked : {T : Type 0} → (List ℕ → ℕ → Option T) → (T → ℕ) → List ℕ → ℕ → ℕ → Option T
walked read size s at zero = read s at
walked read size s at (suc k) = option_and_then (λ x. walked read size s (at + size x) k) (read s at)
