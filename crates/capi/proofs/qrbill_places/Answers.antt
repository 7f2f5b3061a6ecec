-- `capi::qrbill_places` meets its contract: what the reader answers swiss_serves. Assumes nothing.
use Rattle.packing.proofs.Calls.{read_packed, reading_packs}
use Rattle.swiss.specs.Swiss.{swiss}
use Rattle.swiss.proofs.Serves.{swiss_serves}
use Rattle.capi.proofs.qrbill_places.Goals as goal

pub packed_verdict-requires : goal.packed_verdict-requires
unfolding swiss
packed_verdict-requires c = reading_packs swiss_serves c.read.ensures

pub returns : goal.returns
unfolding swiss
returns c = read_packed c.read.ensures c.packed_verdict.ensures
