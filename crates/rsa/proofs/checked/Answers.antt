-- `checked` meets its contract: the numbers stand in as many words as the key has.
use Rattle.std.proofs.Common.{◌∙◌, rules}
use Rattle.rsa.proofs.Parts.{message_number, message_large}
use Rattle.rsa.proofs.checked.Goals as goal

pub matching-requires-clause-large : goal.matching-requires-clause-large
matching-requires-clause-large g c =
    message_large g.row.K _ _ c.encode.ensures g.row.L _ _ (search rules) c.requires.size.1 c.requires.size.0 (search rules) c.load-3.ensures

pub returns : goal.returns
returns g c =
    c.matching.ensures ∙ rw (c.load.ensures, c.load-2.ensures, c.load-3.ensures, message_number g.row.K _ _ c.encode.ensures, c.digest-digest.ensures)
