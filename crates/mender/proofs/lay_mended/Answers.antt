-- `mender::lay_mended` meets its contract. Assumes nothing.
use Rattle.mender.proofs.Answers.{within_room}
use Rattle.mender.proofs.lay_mended.Goals as goal

pub returns : goal.returns
returns c = within_room _ _ c.if-dest-bytes.false c.lay.ensures.dest_after
