use Rattle.rsa.proofs.Loops.{Going, Joins}
use Rattle.rsa.proofs.words.carried.Given as goal

abbrev pub invariant-loop-j : goal.invariant-loop-j
invariant-loop-j g l = Going l.initial.t l.t l.j × Joins (λ j w c s. goal.F-post g l.sum j w c s) l.initial.t l.first l.t l.c l.j
