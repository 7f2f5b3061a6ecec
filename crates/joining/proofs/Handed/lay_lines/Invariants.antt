use Prim.Native.Nat.{◌≤◌}
use mathlib.Core.Path.{◌≡◌}
use lib.ListN.{drop}
use Rattle.sieve.specs.Lines.{joined}
use Rattle.runs.proofs.Lays.{Laying}
use Rattle.joining.specs.Handing.{handed_bytes}
use Rattle.joining.proofs.Handing.{left}
use Rattle.joining.proofs.Handed.lay_lines.Given as goal

abbrev pub invariant-loop-i : goal.invariant-loop-i
invariant-loop-i l =
    let J = handed_bytes l.self in
    (l.i ≤ l.self.count) × Laying l.initial.dest J l.n l.dest × (drop l.n J ≡ joined l.self.brk (left l.self l.i))
