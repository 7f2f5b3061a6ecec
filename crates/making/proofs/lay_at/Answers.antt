-- `making::lay_at` meets its contract: the part is laid in the front of the tail that is lent. Assumes nothing.
use Rattle.runs.proofs.Lays.{tail_laid}
use Rattle.making.proofs.lay_at.Goals as goal

pub returns : goal.returns
returns c =
    rw c.lay.ensures.dest_after (tail_laid c.args.at c.args.dest.now c.args.part.now c.requires)
