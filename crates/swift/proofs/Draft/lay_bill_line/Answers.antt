-- `swift::Draft::lay_bill_line` meets its contract. Assumes nothing.
use Rattle.swift.proofs.Remitting.{short_text}
use Rattle.swift.proofs.Draft.lay_bill_line.Goals as goal

pub lay_text-requires : goal.lay_text-requires
lay_text-requires c =
    (c.requires.fact.0, c.requires.le_n.2, short_text c.args.n c.requires.fact.1 c.line.ensures c.requires.le_n.0 c.requires.le_n.1)
