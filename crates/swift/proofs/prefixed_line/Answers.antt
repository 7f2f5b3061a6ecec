-- `swift::prefixed_line` meets its contract. Assumes nothing.
use native.Mathlib.Omega.{arith}
use Rattle.swift.proofs.Rows.{then_added, first_added, widened}
use Rattle.swift.proofs.prefixed_line.Goals as goal

pub returns : goal.returns
returns c =
    let first = c.add-line.ensures in
    let none = c.no_characters.ensures in (
      widened c.add.ensures.small (omega (arith, c.requires.0, c.requires.1, first.small.few, none.0.few)),
      then_added c.args.prefix.now c.add.ensures (first_added first none.1),
    )
