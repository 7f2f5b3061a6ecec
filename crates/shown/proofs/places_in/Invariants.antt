use Rattle.shown.proofs.Taking.{Taken}
use Rattle.shown.proofs.places_in.Given as goal

abbrev pub invariant-loop-i : goal.invariant-loop-i
invariant-loop-i l = Taken l.list l.i l.places
