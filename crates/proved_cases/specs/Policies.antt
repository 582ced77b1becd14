-- Policy files and elements as bytes.
use Rattle.std.specs.Prelude.{ℕ, Bool, true, replicate}
use mathlib.Core.List.{List, ◌++◌, flat_map}
use Rattle.std.proofs.Math.Option.{Option, some, none}
use Rattle.field.specs.Number.{bytes}
use Rattle.policy_grammar.specs.Grammar.{Element, mark_characters}
use Rattle.decision.specs.Lists.{Criteria, names}
use Rattle.proved_cases.specs.Modules.{zeros}

-- an unsigned list with no elements
abbrev pub empty_list : List ℕ
empty_list = bytes 2 0x0200 ++ (bytes 2 0x0010 ++ bytes 4 0)

-- a file of so many empty lists, and the number that it says
abbrev pub file_with : ℕ → List ℕ
file_with count = mark_characters ++ (zeros 4 ++ (zeros 3 ++ (bytes 1 count ++ flat_map (λ (l : List ℕ). l) (replicate count empty_list))))

-- an element of type 0x10 with HashAlg 0x000B that says it has no digest, in 18 bytes
abbrev pub no_digest : List ℕ
no_digest = bytes 4 18 ++ (bytes 4 0x10 ++ (bytes 4 0 ++ (bytes 1 0 ++ (bytes 1 0 ++ (bytes 2 0x000B ++ bytes 2 0)))))

-- the size of an element that was read, 0 where none was; and whether it names a digest, by rule 29
abbrev pub size_of : Option Element → ℕ
size_of none = 0
size_of (some e) = e.size

abbrev pub names_in : Criteria → Option Element → Bool
names_in k none = true
names_in k (some e) = names k e
