-- `season::paid` meets its contract: line 19 is what it may be, and line 20 is one of two currencies. Assumes nothing.
use mathlib.Core.Path.{◌≡◌, refl, sym, ap, ◌∙◌}
use lib.ListN.{get_or}
use Rattle.sieve.specs.Bytes.{Bytes}
use Rattle.sieve.specs.Lines.{cut, lines_of}
use Rattle.sieve.specs.Rules.{line}
use Rattle.swiss.specs.Cents.{cents}
use Rattle.season.proofs.Paying.{accepted_line, first_letter, in_francs, in_euros, francs_added, euros_added}
use Rattle.season.proofs.paid.Goals as goal
use Rattle.season.proofs.paid.Goals.{After-cents-due, After-line-currency}

-- the cents that are due are those of line 19
due : (c : After-cents-due) → c.cents-due.result ≡ cents (line 19 (lines_of (cut c.args.bill.now)))
due c = c.cents-due.ensures ∙ ap cents c.line.ensures

-- the first letter is that of line 20
letter : (c : After-line-currency) → get_or c.line-currency.result.now 0 0 ≡ get_or (line 20 (lines_of (cut c.args.bill.now))) 0 0
letter c = ap (λ (l : Bytes). get_or l 0 0) c.line-currency.ensures

pub cents-due-requires : goal.cents-due-requires
cents-due-requires c = rw c.line.ensures (accepted_line c.args.bill.now c.requires.is)

pub bounds-currency-0 : goal.bounds-currency-0
bounds-currency-0 c =
    rw c.line-currency.ensures (first_letter c.args.bill.now c.requires.is)

pub returns-then-currency-eq67 : goal.returns-then-currency-eq67
returns-then-currency-eq67 c =
    let p = c.args.bill.now in
    let (f, u) = francs_added p c.requires.is (in_francs p c.requires.is (sym (letter (goal.at.returns-then-currency-eq67 c).After-line-currency) ∙ c.if-currency-eq67.true)) in
    record { differs_is = refl; in_francs = due (goal.at.returns-then-currency-eq67 c).After-cents-due ∙ sym f; in_euros = sym u }

pub returns : goal.returns
returns c =
    let p = c.args.bill.now in
    let (f, u) = euros_added p c.requires.is (in_euros p c.requires.is (λ z. c.if-currency-eq67.false (letter (goal.at.returns c).After-line-currency ∙ z))) in
    record { differs_is = refl; in_francs = sym f; in_euros = due (goal.at.returns c).After-cents-due ∙ sym u }
