use Prim.Native.Nat.{◌+◌, ◌-◌}
use Rattle.mender.proofs.Ends.{EndSoFar}
use Rattle.mender.proofs.end_of.Given as goal

abbrev pub invariant-loop : goal.invariant-loop
invariant-loop l = EndSoFar l.bytes l.end (l.lines + 31 - l.counter)
