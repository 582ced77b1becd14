-- Where a walk through a description goes on behind a part, or that nothing is described.
use Rattle.std.specs.Prelude.{Option}
use Rattle.policy_writer.specs.declared.Cursor.{Cursor}

abbrev pub Next : Type 0
Next = Option Cursor
