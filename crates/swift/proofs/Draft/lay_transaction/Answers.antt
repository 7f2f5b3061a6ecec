-- `swift::Draft::lay_transaction` meets its contract. Assumes nothing.
use native.Mathlib.Omega.{arith}
use Rattle.sieve.specs.Lines.{cut, lines_of}
use Rattle.sieve.specs.Rules.{line}
use mathlib.Core.List.{◌++◌}
use Rattle.swift.specs.Fields.{with_comma, transaction}
use Rattle.swift.proofs.Remitting.{short_text}
use Rattle.swift.proofs.Following.{text_followed}
use Rattle.swift.proofs.Draft.lay_transaction.Goals as goal

pub amount_line-requires : goal.amount_line-requires
amount_line-requires c =
    let pay = c.requires.fact.1 in
    (short_text 20 pay c.line-currency.ensures (omega arith) (omega arith), short_text 19 pay c.line-paid.ensures (omega arith) (omega arith), rw c.line-paid.ensures c.requires.payload_value)

pub returns : goal.returns
unfolding transaction
returns c =
    let ls = lines_of (cut c.args.bill.now) in
    let lined = rw (c.line-currency.ensures, c.line-paid.ensures) at c.amount_line.ensures.1 in
    text_followed (line 20 ls ++ with_comma (line 19 ls)) c.lay_line.ensures c.amount_line.ensures.0 lined
