use Prim.Native.Nat.{◌≤◌}
use lib.ListN.{length, drop}
use Rattle.shown.specs.Shown.{OnePerByte}
use Rattle.shown.proofs.plain_from.Given as goal

abbrev pub invariant-loop-at : goal.invariant-loop-at
invariant-loop-at l = (l.at ≤ length l.text) × OnePerByte (drop l.at l.text)

abbrev pub decreases-loop-at : goal.decreases-loop-at
decreases-loop-at l = l.at
