-- `viewer::after` meets its contract. Assumes nothing.
use Rattle.viewer.proofs.Onward.{last, on}
use mathlib.Core.Path.{sym}
use Rattle.viewer.proofs.after.Goals as goal

pub returns-then-next-line : goal.returns-then-next-line
returns-then-next-line c = sym (last c.args.payload.now c.args.at c.line_at-line.result c.line_at-line.ensures c.if-next-line.true)

pub returns : goal.returns
returns c = sym (on c.args.payload.now c.args.at c.line_at-line.result c.line_at-line.ensures c.if-next-line.false)
