use Rattle.std.specs.Prelude.{Ok}
use Rattle.pages.specs.Tables.{found_from}
use Rattle.pages.specs.Inner.{extent, told, entry_in, Tried}
use Rattle.pages.proofs.levels.Walker.span.Given as goal

abbrev pub invariant-loop-i : goal.invariant-loop-i
invariant-loop-i l =
    Tried (extent l.self.tables.window) (told l.self) l.initial.progress (Ok l.progress) (found_from l.kind (entry_in l.kind l.self.tables) l.l l.i)
