-- `capi::qrbill_write` meets its contract: what the writer answers swiss_serves. Assumes nothing.
use Rattle.packing.proofs.Calls.{written_packed, writing_packs}
use Rattle.swiss.specs.Swiss.{swiss}
use borrow.Author.Rules.{rules}
use Rattle.swiss.proofs.Serves.{swiss_serves}
use Rattle.capi.proofs.qrbill_write.Goals as goal

pub packed_laying-requires : goal.packed_laying-requires
unfolding swiss
packed_laying-requires c = writing_packs swiss_serves c.write.ensures (search rules)

pub returns : goal.returns
unfolding swiss
returns c = rw (← c.break_for.ensures) (written_packed c.write.ensures c.told_count.ensures c.packed_laying.ensures)
