use Prim.Native.Nat.{◌+◌}
use mathlib.Core.Path.{◌≡◌}
use lib.ListN.{drop}
use Rattle.glance.specs.FixedLines.{gone_past}
use Rattle.glance.proofs.gone_past.Given as goal

abbrev pub invariant-loop-i : goal.invariant-loop-i
invariant-loop-i l = gone_past l.text l.from (drop l.from l.s) ≡ gone_past (drop l.i l.text) (l.from + l.i) (drop (l.from + l.i) l.s)
