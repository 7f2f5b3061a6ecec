-- `swift::Draft::lay_fields` meets its contract: field by field, each behind what lies on the page. Assumes nothing.
use native.Mathlib.Omega.{arith}
use Rattle.sieve.specs.Lines.{cut, lines_of}
use Rattle.swift.proofs.Making.{second_lines, third_lines, at_the_last, all_made}
use Rattle.swift.proofs.Draft.lay_fields.Goals as goal

pub overflow_sub-result : goal.overflow_sub-result
overflow_sub-result c =
    let ls = lines_of (cut c.args.bill.now) in
    omega (arith, at_the_last ls (rw c.requires.blank.0.page at c.lay_beneficiary.ensures) c.lay_transaction.ensures c.lay_information.ensures)

pub overflow_sub-result-2 : goal.overflow_sub-result-2
overflow_sub-result-2 c =
    let ls = lines_of (cut c.args.bill.now) in
    omega (arith, second_lines ls (rw c.requires.blank.0.page at c.lay_beneficiary.ensures) c.lay_transaction.ensures)

pub overflow_sub-result-3 : goal.overflow_sub-result-3
overflow_sub-result-3 c =
    let ls = lines_of (cut c.args.bill.now) in
    omega (arith, third_lines ls (rw c.requires.blank.0.page at c.lay_beneficiary.ensures) c.lay_transaction.ensures c.lay_information.ensures)

pub returns : goal.returns
returns c =
    all_made (lines_of (cut c.args.bill.now)) (rw c.requires.blank.0.page at c.lay_beneficiary.ensures) c.lay_transaction.ensures c.lay_information.ensures c.requires.blank.0.size
