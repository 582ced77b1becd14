-- `encode` meets its contract: the message is written part by part, and turned round.
use Rattle.std.proofs.Common.{reverse, length, ap, ◌∙◌, rules}
use Rattle.rsa.proofs.Encoding.{written}
use Rattle.rsa.proofs.message.encode.Goals as goal

pub returns : goal.returns
returns c =
    c.reverse.ensures.after
    ∙ ap reverse (written (length c.args.em.now) c.args.digest.now c.requires.0 c.requires.1 c.fill.new.self c.copy_from_slice.new.self c.copy_from_slice-2.new.self _ _
    (c.fill.ensures.after (λ y e. e)) c.copy_from_slice.ensures.after c.copy_from_slice-2.ensures.after (search rules) (search rules))
