-- `pile::Bills::first_outside` meets its contract: what was not found before is found among the places from here on. Assumes nothing.
use native.Mathlib.Omega.{arith}
use mathlib.Core.Path.{sym, ap, ◌∙◌}
use Rattle.sieve.specs.Options.{answered}
use Rattle.joining.proofs.Handing.{outside_first, outside_here, outside_later, outside_none}
use Rattle.pile.proofs.Bills.first_outside.Goals as goal

pub loop-i-init : goal.loop-i-init
loop-i-init c = (omega arith, outside_first c.args.self.buffer.now c.args.self.places.now c.args.self.count)

pub returns-then-self-start : goal.returns-then-self-start
returns-then-self-start c =
    let b = c.args.self in
    ap answered (sym (c.loop-i.invariant.1 ∙ outside_here b.buffer.now b.places.now b.count c.loop-i.i c.loop-i-test.true c.if-self-start.true))

pub loop-i-preserved : goal.loop-i-preserved
loop-i-preserved c =
    let b = c.args.self in
    (omega arith, c.loop-i.invariant.1 ∙ outside_later b.buffer.now b.places.now b.count c.loop-i.i c.loop-i-test.true c.if-self-start.false)

pub returns : goal.returns
returns c =
    let b = c.args.self in
    ap answered (sym (c.loop-i.invariant.1 ∙ outside_none b.buffer.now b.places.now b.count c.loop-i.i c.loop-i-test.false))
