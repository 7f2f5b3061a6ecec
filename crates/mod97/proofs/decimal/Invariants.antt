use Rattle.mod97.proofs.Readings.{Reading}
use Rattle.mod97.proofs.decimal.Given as goal

abbrev pub invariant-loop-x : goal.invariant-loop-x
invariant-loop-x l = Reading l.s l.x-index l.n
