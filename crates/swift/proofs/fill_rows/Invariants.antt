use Rattle.swift.proofs.Fours.{Filling}
use Rattle.swift.proofs.fill_rows.Given as goal

abbrev pub invariant-loop-i : goal.invariant-loop-i
invariant-loop-i l = Filling l.first l.message l.initial.rows l.rows l.at l.i
