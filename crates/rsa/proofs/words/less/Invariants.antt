use Rattle.rsa.proofs.Compare.{Alike}
use Rattle.rsa.proofs.words.less.Given as goal

abbrev pub invariant-loop-j : goal.invariant-loop-j
invariant-loop-j l = Alike l.a l.b l.j
