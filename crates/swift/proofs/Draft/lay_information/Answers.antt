-- `swift::Draft::lay_information` meets its contract. Assumes nothing.
use native.Mathlib.Omega.{arith}
use Rattle.swift.specs.Fields.{remittance}
use Rattle.swift.proofs.Remitting.{short_text}
use Rattle.swift.proofs.Following.{ready}
use Rattle.swift.proofs.Draft.lay_information.Goals as goal

pub lay_reference-requires-clause-are_short : goal.lay_reference-requires-clause-are_short
lay_reference-requires-clause-are_short c = let pay = c.requires.1 in
    let wide = ready 4 (omega arith) c.requires.0 in (
      short_text 28 pay c.line-kind.ensures (omega arith) (omega arith),
      short_text 29 pay c.line-reference.ensures (omega arith) (omega arith),
      short_text 30 pay c.line-message.ensures (omega arith) (omega arith),
    )

pub returns : goal.returns
unfolding remittance
returns c =
    rw (c.line-kind.ensures, c.line-reference.ensures, c.line-message.ensures) at c.lay_reference.ensures
