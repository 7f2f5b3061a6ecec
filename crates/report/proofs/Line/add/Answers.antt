-- `report::Line::add` meets its contract: the text is laid in the tail behind what is laid. Assumes nothing.
use native.Mathlib.Omega.{arith}
use mathlib.Core.Path.{◌≡◌}
use lib.ListN.{length}
use Rattle.report.proofs.Adding.{laid_whole, laid_behind}
use Rattle.report.proofs.Line.add.Goals as goal
use Rattle.report.proofs.Line.add.Goals.{After-lay}

-- all of the text is laid
all_laid : (c : After-lay) → c.lay.result ≡ length c.args.text.now
all_laid c =
    let line = c.args.self.now in
    laid_whole line.at line.bytes c.args.text.now (omega arith) c.requires c.lay.ensures.value

pub overflow_add-self : goal.overflow_add-self
overflow_add-self c = omega (arith, all_laid c)

pub returns-clause-at_after : goal.returns-clause-at_after
returns-clause-at_after c = omega (arith, all_laid (goal.at.returns-clause-at_after c).After-lay)

pub returns-clause-line_after : goal.returns-clause-line_after
returns-clause-line_after c =
    let line = c.args.self.now in
    rw (all_laid (goal.at.returns-clause-line_after c).After-lay) (laid_behind line.at line.bytes c.args.text.now (omega arith) c.requires c.lay.ensures.dest_after)
