-- `swift::Draft::lay_street` meets its contract. Assumes nothing.
use native.Mathlib.Omega.{arith}
use Rattle.swift.proofs.Remitting.{short_text}
use Rattle.swift.proofs.Draft.lay_street.Goals as goal

pub street_line-requires : goal.street_line-requires
street_line-requires c =
    let pay = c.requires.1 in
    (short_text 7 pay c.line-street.ensures (omega arith) (omega arith), short_text 8 pay c.line-number.ensures (omega arith) (omega arith))
