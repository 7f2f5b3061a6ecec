-- `swift::town_line` meets its contract. Assumes nothing.
use native.Mathlib.Omega.{arith}
use mathlib.Core.List.{◌++◌}
use Rattle.sieve.specs.Bytes.{ascii}
use Rattle.swift.proofs.Rows.{then_added, widened}
use Rattle.swift.proofs.Texts.{town_parts}
use Rattle.swift.proofs.town_line.Goals as goal

pub returns : goal.returns
returns c =
    let a = c.args in
    let country = c.prefixed_line-line.ensures in
    let slash = c.add-line.ensures in
    let postcode = c.add-line-2.ensures in
    let space = c.add-line-3.ensures in
    let t₁ = ascii "3/" ++ a.country.now in
    let t₂ = t₁ ++ ascii "/" in
    let t₃ = t₂ ++ a.postcode.now in (
      widened c.add.ensures.small (omega (arith, c.requires.0, c.requires.1, c.requires.2, space.small.few, postcode.small.few, slash.small.few, country.0.few)),
      rw (← town_parts a.country.now a.postcode.now a.town.now)
          (then_added (t₃ ++ ascii " ") c.add.ensures (then_added t₃ space (then_added t₂ postcode (then_added t₁ slash country.1)))),
    )
