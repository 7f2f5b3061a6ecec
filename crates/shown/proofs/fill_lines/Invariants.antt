use Rattle.shown.proofs.Filling.{Filling}
use Rattle.shown.proofs.fill_lines.Given as goal

abbrev pub invariant-loop-i : goal.invariant-loop-i
invariant-loop-i l = Filling l.payload l.places l.initial.list l.i l.list
