-- `swift::Draft::lay_row` meets its contract: the row and CR LF are laid in the front of the tails that are lent. Assumes nothing.
use Rattle.swift.proofs.Pages.{none_laid, row_put}
use Rattle.swift.proofs.Draft.lay_row.Goals as goal

pub returns-then-n-eq0 : goal.returns-then-n-eq0
returns-then-n-eq0 c = none_laid c.requires.0.roomy c.if-n-eq0.true

pub returns : goal.returns
returns c =
    row_put c.requires.0 c.requires.1 c.begun-line.ensures c.if-n-eq0.false c.lay.ensures.dest_after c.lay-2.ensures.dest_after
