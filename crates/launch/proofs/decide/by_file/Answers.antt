-- `by_file` meets its contract: rule 29.
use Rattle.launch.proofs.Deciding.{no_list_lem, a_list}
use Rattle.launch.proofs.decide.by_file.Goals as goal

pub returns-then-is_none : goal.returns-then-is_none
returns-then-is_none c =
    no_list_lem _ _ _ _ _ _ _ c.digest-digest.ensures c.lowest_permitting-list.ensures (λ i. (c.type_inv.file i).fits) _ c.is_none.ensures c.if-is_none.true

pub returns : goal.returns
returns c =
    a_list _ _ _ _ _ _ _ c.digest-digest.ensures c.lowest_permitting-list.ensures (λ i. (c.type_inv.file i).fits) _ c.is_none.ensures c.if-is_none.false
