-- `swift::street_line` meets its contract: by what is there. Assumes nothing.
use native.Mathlib.Omega.{arith}
use mathlib.Core.List.{◌++◌}
use Rattle.sieve.specs.Bytes.{ascii}
use Rattle.swift.proofs.Rows.{then_added, none_added, widened}
use Rattle.swift.proofs.Texts.{neither_there, street_alone, number_alone, both_there}
use Rattle.swift.proofs.street_line.Goals as goal

pub returns-then-street-eq0 : goal.returns-then-street-eq0
returns-then-street-eq0 c =
    let a = c.args in
    let line_is = c.no_characters.ensures in
    (widened line_is.0 (omega arith), rw (neither_there a.street.now a.number.now c.if-street-eq0.true c.if-number-eq0.true) (none_added line_is.1))

pub returns-then-number-eq0 : goal.returns-then-number-eq0
returns-then-number-eq0 c =
    let a = c.args in
    let line_is = c.prefixed_line.ensures in
    (widened line_is.0 (omega arith), rw (street_alone a.street.now a.number.now c.if-street-eq0.false c.if-number-eq0.true) line_is.1)

pub returns-then-street-eq0-2 : goal.returns-then-street-eq0-2
returns-then-street-eq0-2 c =
    let a = c.args in
    let line_is = c.prefixed_line-then-street-eq0-2.ensures in
    (widened line_is.0 (omega arith), rw (number_alone a.street.now a.number.now c.if-street-eq0-2.true c.if-number-eq0.false) line_is.1)

pub returns : goal.returns
returns c =
    let a = c.args in
    let street = c.prefixed_line-line.ensures in
    let space = c.add-line.ensures in (
      widened c.add.ensures.small (omega (arith, c.requires.0, c.requires.1, space.small.few, street.0.few)),
      rw (← both_there a.street.now a.number.now c.if-street-eq0-2.false c.if-number-eq0.false)
          (then_added ((ascii "2/" ++ a.street.now) ++ ascii " ") c.add.ensures (then_added (ascii "2/" ++ a.street.now) space street.1)),
    )
