use Prim.Native.Nat.{◌+◌, ◌-◌, ◌≤◌}
use mathlib.Core.Path.{◌≡◌}
use lib.ListN.{length, drop}
use Rattle.sieve.specs.Lines.{cut, breaks_of}
use Rattle.lines.specs.Parted.{breaks_in}
use Rattle.lines.proofs.Holding.{held_from}
use Rattle.lines.proofs.parts.Given as goal

abbrev pub invariant-loop-breaks : goal.invariant-loop-breaks
invariant-loop-breaks l = (l.at ≤ length l.s) × (l.n ≤ l.at + 1) × (breaks_in l.s ≡ held_from l.breaks l.n (breaks_of (cut (drop l.at l.s))))

abbrev pub decreases-loop-breaks : goal.decreases-loop-breaks
decreases-loop-breaks l = length l.s - l.at
