use Prim.Native.Nat.{◌*◌}
use Rattle.std.specs.Prelude.{Ok}
use Rattle.pages.specs.declared.Kind.TheVariants.{Page}
use Rattle.pages.specs.Tables.{entries, found_from}
use Rattle.pages.specs.Inner.{extent, told, entry_in, Tried}
use Rattle.pages.proofs.levels.Walker.pages.Given as goal

abbrev pub invariant-loop-d : goal.invariant-loop-d
invariant-loop-d l =
    Tried (extent l.self.tables.window) (told l.self) l.initial.progress (Ok l.progress) (found_from Page (entry_in Page l.self.tables) 0 (entries * l.d))
