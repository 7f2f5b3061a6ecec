use Prim.Native.Nat.{◌+◌}
use mathlib.Core.Path.{◌≡◌}
use lib.ListN.{length, drop}
use Rattle.sieve.specs.Lines.{cut}
use Rattle.lines.proofs.line_at.Given as goal

abbrev pub invariant-loop-at : goal.invariant-loop-at
invariant-loop-at l = l.from + length (cut (drop l.from l.s)).first ≡ l.at + length (cut (drop l.at l.s)).first
