-- `high_bit` meets its contract: all words are 0, and then the highest is not.
use Rattle.std.proofs.Common.{arith}
use Rattle.rsa.proofs.Values.{zeros, high_word}
use Rattle.rsa.proofs.words.high_bit.Goals as goal

pub returns : goal.returns
returns c =
    rw (← c.fill.ensures.len) (high_word c.fill.new.self (omega (arith, c.fill.ensures.len, c.requires)) (zeros _ (c.fill.ensures.after (λ y e. e))))
