-- `swiss_judge::judge` meets its contract: the layout of edition 2.4 is the Swiss one. Assumes nothing.
use Rattle.swiss.specs.Swiss.{swiss}
use Rattle.swiss_judge.proofs.judge.Goals as goal

pub returns : goal.returns
unfolding swiss
returns c = c.judge_in.ensures
