-- `swift::fill` meets its contract: byte by byte, what the row holds and what is left of the text are together the same. Assumes nothing.
use native.Mathlib.Omega.{arith}
use mathlib.Core.Path.{◌≡◌}
use lib.ListN.{length}
use Rattle.swift.proofs.Rows.{passed_over, put_as_is, put_stop, at_the_brim, at_the_end}
use Rattle.swift.proofs.fill.Goals as goal
use Rattle.swift.proofs.fill.Goals.{then-in_x, else-in_x+then-begins, else-in_x+else-begins}

pub returns-then-length-eq35 : goal.returns-then-length-eq35
returns-then-length-eq35 c = at_the_brim c.loop-at.invariant c.if-length-eq35.true

pub loop-at-preserved : goal.loop-at-preserved
loop-at-preserved c =
    let going = c.loop-at.invariant in
    let here = c.loop-at-test.true in
    let more = c.if-length-eq35.false in
    elim c.if-in_x.branch [
      | then-in_x w ↦ rw (w.bytes-is, w.length-is, w.replaced-is) (put_as_is going here more (rw c.in_x.ensures at w.if-in_x.true))
      | else-in_x+then-begins w ↦ rw (w.bytes-is, w.length-is, w.replaced-is) (put_stop going here more (rw c.in_x.ensures at w.if-in_x.false) (rw w.begins.ensures at w.if-begins.true))
      | else-in_x+else-begins w ↦ rw (w.bytes-is, w.length-is, w.replaced-is) (passed_over going here (rw w.begins.ensures at w.if-begins.false))
    ]

pub returns : goal.returns
returns c = let end : c.loop-at.at ≡ length c.args.text.now = omega arith in rw end at (at_the_end c.loop-at.invariant c.loop-at-test.false)
