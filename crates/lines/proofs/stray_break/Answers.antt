-- `lines::stray_break` meets its contract. The invariant: the bytes that are left decide. Assumes nothing.
use mathlib.Core.Bool.{false}
use mathlib.Core.Path.{◌≡◌, sym, ap, ◌∙◌}
use lib.ListN.{get_or, drop_of_length-le}
use Rattle.sieve.specs.Bytes.{first_such}
use Rattle.sieve.specs.Options.{answered}
use Rattle.sieve.specs.Lines.{of_break}
use Rattle.lines.proofs.ByteByByte.{such_here, such_later, above_breaks}
use Rattle.lines.proofs.stray_break.Goals as goal
use Rattle.lines.proofs.stray_break.Goals.{then-x-le13+else-of_break, else-x-le13}

pub returns-then-of_break : goal.returns-then-of_break
returns-then-of_break c =
    sym (ap answered (c.loop-i.invariant ∙ such_here of_break c.args.s.now c.loop-i.i c.loop-i-test.true (sym c.of_break.ensures ∙ c.if-of_break.true)))

pub loop-i-preserved : goal.loop-i-preserved
loop-i-preserved c =
    let s = c.args.s.now in
    let none : of_break (get_or s c.loop-i.i 0) ≡ false = elim c.if-x-le13.branch [ then-x-le13+else-of_break w ↦ sym w.of_break.ensures ∙ w.if-of_break.false | else-x-le13 w ↦ above_breaks _ w.if-x-le13.false ] in
    c.loop-i.invariant ∙ such_later of_break s c.loop-i.i c.loop-i-test.true none

pub returns : goal.returns
unfolding first_such
returns c = sym (ap answered (rw (drop_of_length-le c.args.s.now c.loop-i-test.false) at c.loop-i.invariant))
