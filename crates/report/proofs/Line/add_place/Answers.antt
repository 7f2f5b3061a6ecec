-- `report::Line::add_place` meets its contract: a fault may point at a byte. Assumes nothing.
use native.Mathlib.Omega.{arith}
use lib.ListN.{length-append}
use mathlib.Core.Path.{sym, ◌∙◌}
use Rattle.sieve.specs.Bytes.{ascii}
use Rattle.sieve.specs.Paper.{paper_fault}
use Rattle.sieve.proofs.Options.{answered_some}
use Rattle.report.specs.Spoken.{in_decimal}
use Rattle.report.proofs.Adding.{few_digits}
use Rattle.report.proofs.Line.add_place.Goals as goal

pub returns-in-Some-clause-upper_bound : goal.returns-in-Some-clause-upper_bound
returns-in-Some-clause-upper_bound c =
    let place = c.in-Some.place in
    let small = rw (answered_some (paper_fault c.args.fault).place place (sym c.in-Some.is ∙ c.place_of.ensures)) at c.requires.0 in
    omega (arith, c.add_named.ensures.at_after, length-append (ascii " byte ") (in_decimal place), few_digits place small)
