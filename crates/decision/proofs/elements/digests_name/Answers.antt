-- `digests_name` meets its contract: one law for each answer.
use Rattle.decision.proofs.Naming.{other_algorithm, asked}
use Rattle.decision.proofs.elements.digests_name.Goals as goal

pub returns-then-hash_alg-ne-SHA256_ALG : goal.returns-then-hash_alg-ne-SHA256_ALG
returns-then-hash_alg-ne-SHA256_ALG c = other_algorithm _ _ _ _ c.if-hash_alg-ne-SHA256_ALG.true

pub returns : goal.returns
returns c = asked _ _ _ _ c.if-hash_alg-ne-SHA256_ALG.false _ c.named.ensures
