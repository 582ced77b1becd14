-- `levels` meets its contract: the pointer entries, the directory entries and the pages were tried in turn.
use Rattle.std.proofs.lemmas.Result.{err_from_is_err_and}
use Rattle.pages.specs.Tables.{found}
use Rattle.pages.proofs.Tried.{returned, tried_then, tried_refused}
use Rattle.pages.proofs.levels.Walker.levels.Goals as goal

pub returns-in_err-pointers : goal.returns-in_err-pointers
unfolding found
returns-in_err-pointers c =
    returned _ _ _ _ (err_from_is_err_and c.from_residual.result c.from_residual.ensures.1) (tried_refused _ _ _ _ _ _ c.in_err-pointers.ensures)

pub returns-in_err-directories : goal.returns-in_err-directories
unfolding found
returns-in_err-directories c =
    let from = c.from_residual-in_err-directories in
    returned _ _ _ _ (err_from_is_err_and from.result from.ensures.1)
    (tried_then _ _ _ _ _ _ c.in_ok-pointers.ensures _ (tried_refused _ _ _ _ _ _ c.in_err-directories.ensures))

pub returns : goal.returns
unfolding found
returns c = tried_then _ _ _ _ _ _ c.in_ok-pointers.ensures _ (tried_then _ _ _ _ _ _ c.in_ok-directories.ensures _ c.level-3.ensures)
