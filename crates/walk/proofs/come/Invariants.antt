use Prim.Native.Nat.{◌-◌, ◌≤◌, ◌<◌}
use mathlib.Core.Path.{◌≡◌}
use lib.ListN.{length}
use Rattle.walk.specs.Here.{Here}
use Rattle.walk.proofs.come.Given as goal

abbrev pub invariant-loop-at : goal.invariant-loop-at
invariant-loop-at l = (l.initial.at ≤ l.at) × Here l.set l.s l.places l.at l.passed × (l.stop ≡ length l.s)

abbrev pub decreases-loop-at : goal.decreases-loop-at
decreases-loop-at l = length l.s - l.at

abbrev pub invariant-lines : goal.invariant-lines
invariant-lines l = Here l.set l.s l.places l.at l.passed × (l.at < length l.s → l.passed.start ≡ l.at) × (l.stop ≡ length l.s)

abbrev pub decreases-lines : goal.decreases-lines
decreases-lines l = length l.s - l.at
