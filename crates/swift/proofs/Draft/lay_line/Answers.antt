-- `swift::Draft::lay_line` meets its contract. Assumes nothing.
use Rattle.swift.proofs.Pages.{line_put}
use Rattle.swift.proofs.Draft.lay_line.Goals as goal

pub returns : goal.returns
returns c = line_put c.lay_row.ensures
