-- `verify` meets its contract: it refuses lengths that are not right, and hands every other to `checked`.
use Rattle.std.proofs.Common.{rules}
use Rattle.rsa.proofs.Parts.{first_size, second_size, no_size}
use Rattle.rsa.proofs.Verified.{unknown, other_length, verified}
use Rattle.rsa.proofs.verify.Goals as goal

pub returns-then-signature-key : goal.returns-then-signature-key
returns-then-signature-key c = other_length _ _ _ c.if-signature-key.true

pub returns-in-256 : goal.returns-in-256
returns-in-256 c =
    verified c.args.key.now c.args.signature.now c.args.message.now 256 _ (λ i. (c.type_inv.key i).fits) c.in-256.is first_size c.if-signature-key.false c.checked.ensures

pub returns-in-384 : goal.returns-in-384
returns-in-384 c =
    verified c.args.key.now c.args.signature.now c.args.message.now 384 _ (λ i. (c.type_inv.key i).fits) c.in-384.is second_size c.if-signature-key.false c.checked-in-384.ensures

pub returns-in_default : goal.returns-in_default
returns-in_default c = unknown _ _ _ (no_size _ (search rules) (search rules))
