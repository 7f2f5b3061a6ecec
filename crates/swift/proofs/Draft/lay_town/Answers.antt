-- `swift::Draft::lay_town` meets its contract. Assumes nothing.
use native.Mathlib.Omega.{arith}
use Rattle.swift.proofs.Remitting.{short_text}
use Rattle.swift.proofs.Draft.lay_town.Goals as goal

pub town_line-requires : goal.town_line-requires
town_line-requires c =
    let pay = c.requires.1 in
    (short_text 11 pay c.line-country.ensures (omega arith) (omega arith), short_text 9 pay c.line-postcode.ensures (omega arith) (omega arith), short_text 10 pay c.line-town.ensures (omega arith) (omega arith))
