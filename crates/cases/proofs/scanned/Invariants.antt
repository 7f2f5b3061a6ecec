use Rattle.std.proofs.Common.{◌≤◌, length}
use Rattle.cases.proofs.scanned.Given as goal

abbrev pub invariant-loop-i : goal.invariant-loop-i
invariant-loop-i l = l.at ≤ length l.payload
