-- `runs::begun` meets its contract: those counted, and those of the bytes that are left, are all. Assumes nothing.
use native.Mathlib.Omega.{arith}
use Rattle.runs.proofs.Counts.{going_on, low_begins, high_begins, none_begins}
use Rattle.runs.proofs.begun.Goals as goal

pub loop-x-preserved : goal.loop-x-preserved
loop-x-preserved c = grind (arith, going_on, low_begins, high_begins)

pub returns : goal.returns
returns c = grind (arith, none_begins)
