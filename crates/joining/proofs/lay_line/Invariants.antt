use Rattle.runs.proofs.Lays.{Laying}
use Rattle.joining.proofs.lay_line.Given as goal

abbrev pub invariant-loop-i : goal.invariant-loop-i
invariant-loop-i l = Laying l.initial.dest l.line l.i l.dest
