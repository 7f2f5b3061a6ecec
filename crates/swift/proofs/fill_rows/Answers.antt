-- `swift::fill_rows` meets its contract: row after row takes its share of the message. Assumes nothing.
use Rattle.swift.proofs.Fours.{row_filled}
use Rattle.swift.proofs.fill_rows.Goals as goal

pub loop-i-preserved : goal.loop-i-preserved
loop-i-preserved c =
    row_filled c.loop-i.invariant c.loop-i-test.true c.no_characters-none.ensures.1.held c.fill-filled.ensures
