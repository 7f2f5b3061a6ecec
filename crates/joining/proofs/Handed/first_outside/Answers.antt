-- `joining::Handed::first_outside` meets its contract: what was not found before is found among the places from here on. Assumes nothing.
use native.Mathlib.Omega.{arith}
use mathlib.Core.Path.{sym, ap, ◌∙◌}
use Rattle.sieve.specs.Options.{answered}
use Rattle.joining.proofs.Handing.{outside_first, outside_here, outside_later, outside_none}
use Rattle.joining.proofs.Handed.first_outside.Goals as goal

pub loop-i-init : goal.loop-i-init
loop-i-init c = (omega arith, outside_first c.args.self.text.now c.args.self.list.now c.args.self.count)

pub returns-then-self-start : goal.returns-then-self-start
returns-then-self-start c =
    let h = c.args.self in
    ap answered (sym (c.loop-i.invariant.1 ∙ outside_here h.text.now h.list.now h.count c.loop-i.i c.loop-i-test.true c.if-self-start.true))

pub loop-i-preserved : goal.loop-i-preserved
loop-i-preserved c =
    let h = c.args.self in
    (omega arith, c.loop-i.invariant.1 ∙ outside_later h.text.now h.list.now h.count c.loop-i.i c.loop-i-test.true c.if-self-start.false)

pub returns : goal.returns
returns c =
    let h = c.args.self in
    ap answered (sym (c.loop-i.invariant.1 ∙ outside_none h.text.now h.list.now h.count c.loop-i.i c.loop-i-test.false))
