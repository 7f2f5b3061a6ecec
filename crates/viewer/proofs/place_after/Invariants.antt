use Prim.Native.Nat.{◌-◌}
use mathlib.Core.Path.{◌≡◌}
use Rattle.viewer.specs.View.{standing, moved_from}
use Rattle.viewer.proofs.place_after.Given as goal

abbrev pub invariant-loop : goal.invariant-loop
invariant-loop l = moved_from l.payload (l.moves - l.counter) l.at ≡ standing l.payload l.moves
