use Prim.Native.Nat.{◌*◌, ◌≤◌}
use Rattle.runs.proofs.Lays.{Laying}
use Rattle.pile.specs.Pile.{bills_numbers}
use Rattle.pile.proofs.Gathered.judge_all.Given as goal

abbrev pub invariant-loop-i : goal.invariant-loop-i
invariant-loop-i l =
    (l.i ≤ l.self.bills.count) × Laying l.initial.answers (bills_numbers l.edition l.self.bills) (2 * l.i) l.answers
