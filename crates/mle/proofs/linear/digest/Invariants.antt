use Rattle.sha256.specs.State.{Holds}
use Rattle.mle.specs.Image.{bytes_from}
use Rattle.mle.proofs.linear.digest.Given as goal

abbrev pub invariant-loop-k : goal.invariant-loop-k
invariant-loop-k l = Holds l.state (bytes_from l.w l.image l.image.first l.k)
