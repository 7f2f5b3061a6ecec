use mathlib.Core.Path.{◌≡◌}
use lib.ListN.{drop}
use Rattle.sieve.specs.Bytes.{first_such}
use Rattle.sieve.specs.Lines.{of_break}
use Rattle.lines.proofs.stray_break.Given as goal

abbrev pub invariant-loop-i : goal.invariant-loop-i
invariant-loop-i l = first_such of_break 0 l.s ≡ first_such of_break l.i (drop l.i l.s)
