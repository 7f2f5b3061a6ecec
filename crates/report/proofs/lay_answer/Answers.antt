-- `report::lay_answer` meets its contract: the line is composed in room of its own, and then laid. Assumes nothing.
use Prim.Native.Nat.{◌-◌}
use native.Mathlib.Omega.{arith}
use lib.ListN.{take}
use Rattle.runs.proofs.Lays.{room_fits}
use Rattle.report.proofs.lay_answer.Goals as goal

pub returns-clause-upper_bound : goal.returns-clause-upper_bound
returns-clause-upper_bound c =
    let line = c.compose.new.self in
    omega (arith, c.lay.ensures.value, room_fits c.args.dest.now (take (line.at - 0) line.bytes))
