-- `capi::qrbill_pile` meets its contract: what is answered packs. Assumes nothing.
use Rattle.pile.proofs.Positions.{low_position}
use Rattle.capi.proofs.qrbill_pile.Goals as goal

pub packed_refusal-requires : goal.packed_refusal-requires
packed_refusal-requires c = low_position (rw c.in-Err.is at c.pile.ensures)
