-- `swiss_judge::verdict` meets its contract: the layout of edition 2.4 is the Swiss one. Assumes nothing.
use Rattle.swiss.specs.Swiss.{swiss}
use Rattle.swiss_judge.proofs.verdict.Goals as goal

pub returns : goal.returns
unfolding swiss
returns c = c.verdict_in.ensures
