-- `capi::qrbill_read` meets its contract: every verdict swiss_serves. Assumes nothing.
use Rattle.packing.proofs.Calls.{verdict_packs}
use Rattle.swiss.proofs.Serves.{swiss_serves}
use Rattle.capi.proofs.qrbill_read.Goals as goal

pub packed_answer-requires : goal.packed_answer-requires
packed_answer-requires c = rw c.verdict.ensures (verdict_packs swiss_serves _)
