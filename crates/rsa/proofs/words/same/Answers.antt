-- `same` meets its contract: words that differ stand for different numbers.
use Rattle.std.proofs.Common.{rules}
use Rattle.rsa.proofs.Compare.{words_same}
use Rattle.rsa.proofs.words.same.Goals as goal

pub returns : goal.returns
returns c = words_same _ _ _ (λ i. search rules) (λ i. search rules) c.requires c.eq.ensures
