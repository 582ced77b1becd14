-- `table` meets its contract: where the directory entry is absent, so is each of its pages.
use mathlib.Core.Path.{sym, ap, ◌∙◌}
use Rattle.pages.specs.Entry.{present_of}
use Rattle.pages.proofs.Tried.{table_skipped}
use Rattle.pages.proofs.levels.Walker.table.Goals as goal

pub returns-then-not-present : goal.returns-then-not-present
returns-then-not-present c =
    table_skipped _ _ _ _ _ _ _ (sym (c.present.ensures ∙ ap present_of c.directory.ensures) ∙ c.if-not-present.true)
