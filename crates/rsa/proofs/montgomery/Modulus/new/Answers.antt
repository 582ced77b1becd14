-- `new` meets its contract: the lowest word of an odd number is odd.
use Rattle.rsa.proofs.Products.{odd_words, odd_low}
use Rattle.rsa.proofs.montgomery.Modulus.new.Goals as goal

pub bounds-words-0 : goal.bounds-words-0
bounds-words-0 c = odd_words c.args.words.now c.requires

pub inverse-requires : goal.inverse-requires
inverse-requires c = odd_low c.args.words.now c.requires
