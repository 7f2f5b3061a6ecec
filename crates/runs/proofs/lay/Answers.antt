-- `runs::lay` meets its contract, by that of the library's copy. Assumes nothing.
use Rattle.runs.proofs.Lays.{no_room, written}
use Rattle.runs.proofs.lay.Goals as goal

pub returns-then-dest-items-clause-value : goal.returns-then-dest-items-clause-value
returns-then-dest-items-clause-value g c = (no_room _ _ c.if-dest-items.true).0

pub returns-then-dest-items-clause-dest_after : goal.returns-then-dest-items-clause-dest_after
returns-then-dest-items-clause-dest_after g c = (no_room _ _ c.if-dest-items.true).1

pub returns-clause-value : goal.returns-clause-value
returns-clause-value g c = (written c.args.dest.now c.args.items.now c.if-dest-items.false c.copy_from_slice.ensures.after).0

pub returns-clause-dest_after : goal.returns-clause-dest_after
returns-clause-dest_after g c = (written c.args.dest.now c.args.items.now c.if-dest-items.false c.copy_from_slice.ensures.after).1
