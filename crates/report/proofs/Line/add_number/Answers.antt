-- `report::Line::add_number` meets its contract: the digits are those of the number. Assumes nothing.
use Prim.Native.Nat.{◌+◌}
use mathlib.Core.Path.{sym, ap, ◌∙◌}
use lib.ListN.{length}
use Rattle.sieve.specs.Bytes.{Bytes}
use Rattle.report.proofs.Adding.{one_digit, two_digits_lem, three_digits}
use Rattle.report.proofs.Line.add_number.Goals as goal

pub returns-then-n-lt10-clause-at_after : goal.returns-then-n-lt10-clause-at_after
returns-then-n-lt10-clause-at_after c = c.add.ensures.at_after ∙ ap (λ (t : Bytes). c.args.self.now.at + length t) (sym (one_digit c.args.n c.if-n-lt10.true))

pub returns-then-n-lt10-clause-line_after : goal.returns-then-n-lt10-clause-line_after
returns-then-n-lt10-clause-line_after c = rw (one_digit c.args.n c.if-n-lt10.true, ← c.digit-last.ensures) c.add.ensures.line_after

pub returns-then-tens-lt10-clause-at_after : goal.returns-then-tens-lt10-clause-at_after
returns-then-tens-lt10-clause-at_after c = c.add-then-tens-lt10.ensures.at_after ∙ ap (λ (t : Bytes). c.args.self.now.at + length t) (sym (two_digits_lem c.args.n c.if-n-lt10.false c.if-tens-lt10.true))

pub returns-then-tens-lt10-clause-line_after : goal.returns-then-tens-lt10-clause-line_after
returns-then-tens-lt10-clause-line_after c = rw (two_digits_lem c.args.n c.if-n-lt10.false c.if-tens-lt10.true, ← c.digit-last.ensures, ← c.digit-middle.ensures) c.add-then-tens-lt10.ensures.line_after

pub returns-clause-at_after : goal.returns-clause-at_after
returns-clause-at_after c = c.add-2.ensures.at_after ∙ ap (λ (t : Bytes). c.args.self.now.at + length t) (sym (three_digits c.args.n c.if-tens-lt10.false c.requires.0))

pub returns-clause-line_after : goal.returns-clause-line_after
returns-clause-line_after c = rw (three_digits c.args.n c.if-tens-lt10.false c.requires.0, ← c.digit-last.ensures, ← c.digit-middle.ensures, ← c.digit.ensures) c.add-2.ensures.line_after
