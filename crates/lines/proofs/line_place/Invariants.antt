use Prim.Native.Nat.{◌-◌}
use mathlib.Core.Path.{◌≡◌}
use lib.ListN.{get_or}
use Rattle.lines.specs.LinesIn.{lines_at, line_of}
use Rattle.lines.proofs.LinesLie.{absent}
use Rattle.lines.proofs.line_place.Given as goal

abbrev pub invariant-loop : goal.invariant-loop
invariant-loop l = line_of l.s l.n ≡ get_or (lines_at l.s l.at) (l.n - l.counter) (absent l.s)
