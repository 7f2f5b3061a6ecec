use Prim.Native.Nat.{◌-◌, ◌≤◌}
use mathlib.Core.Path.{◌≡◌}
use lib.ListN.{length}
use Rattle.mender.specs.Sweeping.{SweptTo}
use Rattle.mender.proofs.sweep.Given as goal

abbrev pub invariant-loop-room : goal.invariant-loop-room
invariant-loop-room l = (l.initial.i ≤ l.i) × SweptTo l.payload l.i l.t l.room × (length l.room ≡ length l.initial.room)

abbrev pub decreases-loop-room : goal.decreases-loop-room
decreases-loop-room l = length l.payload - l.i

abbrev pub invariant-loop-i : goal.invariant-loop-i
invariant-loop-i l = SweptTo l.payload l.i l.t l.room × (length l.room ≡ length l.initial.room)

abbrev pub decreases-loop-i : goal.decreases-loop-i
decreases-loop-i l = length l.payload - l.i
