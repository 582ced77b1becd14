-- What the contracts of private functions say.
use Rattle.std.specs.Prelude.{ℕ, ◌+◌, cond, List, length, Result, Ok, Err}
use Rattle.field.specs.Field.{number_at}
use Rattle.rules.specs.declared.refusal.Refusal.{Refusal}
use Rattle.rules.specs.declared.refusal.Refusal.TheVariants.{HeapParts}
use Rattle.heap.specs.Heap.{size_fits}

-- where the part that begins at a place ends, of which rule 2 asks that it is inside the heap
abbrev pub part_end : List ℕ → ℕ → Result ℕ Refusal
part_end heap at = cond (size_fits at (number_at heap at 8) (length heap)) (Ok (at + number_at heap at 8)) (Err HeapParts)
