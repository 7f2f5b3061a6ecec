-- `capi::qrbill_line` meets its contract: the walk's list has the places of the lines. Assumes nothing.
use mathlib.Core.Path.{◌∙◌}
use Rattle.swiss.specs.Swiss.{swiss}
use Rattle.packing.proofs.Calls.{line_packed}
use Rattle.swiss.proofs.Serves.{swiss_serves}
use Rattle.capi.proofs.qrbill_line.Goals as goal

pub returns : goal.returns
unfolding swiss
returns c = c.packed_line.ensures ∙ line_packed swiss_serves c.judge-answer.ensures c.args.line
