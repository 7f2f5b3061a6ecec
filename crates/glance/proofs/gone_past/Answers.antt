-- `glance::gone_past` meets its contract. The invariant: what is left of the text and of the bytes decides. Assumes nothing.
use Prim.Native.Nat.{◌+◌}
use native.Mathlib.Omega.{arith}
use mathlib.Core.Bool.{cond, ◌&&◌}
use mathlib.Core.Path.{◌≡◌, sym, ◌∙◌}
use lib.Dec.{eqb}
use lib.ListN.{length, get_or, drop}
use borrow.Author.Tests.{eq-eqb, ne_eqb}
use Rattle.glance.specs.FixedLines.{gone_past}
use Rattle.glance.proofs.Fronts.{step, then_break}
use Rattle.glance.proofs.gone_past.Goals as goal
use Rattle.glance.proofs.gone_past.Goals.{After-loop-i}

-- behind the text, the tests for a break
behind : (c : After-loop-i) → let a = c.args in let s = a.s.now in let end = a.from + length a.text.now in
    gone_past a.text.now a.from (drop a.from s) ≡ cond (eqb (get_or s end 0) 10) (end + 1) (cond (eqb (get_or s end 0) 13 && eqb (get_or s (end + 1) 0) 10) (end + 2) 0)
behind c =
    let a = c.args in
    let all : c.loop-i.i ≡ length a.text.now = omega arith in
    rw all at (c.loop-i.invariant ∙ then_break a.s.now (a.from + c.loop-i.i) a.text.now c.loop-i.i c.loop-i-test.false)

pub returns-then-s-from : goal.returns-then-s-from
returns-then-s-from c =
    let a = c.args in
    c.loop-i.invariant ∙ step a.s.now (a.from + c.loop-i.i) a.text.now c.loop-i.i c.loop-i-test.true (omega arith) ∙ rw (ne_eqb _ _ c.if-s-from.true)

pub loop-i-preserved : goal.loop-i-preserved
loop-i-preserved c =
    let a = c.args in
    let more : a.from + (c.loop-i.i + 1) ≡ a.from + c.loop-i.i + 1 = omega arith in
    rw more (c.loop-i.invariant ∙ step a.s.now (a.from + c.loop-i.i) a.text.now c.loop-i.i c.loop-i-test.true (omega arith) ∙ rw (eq-eqb _ _ c.if-s-from.false))

pub returns-then-s-end-eq10 : goal.returns-then-s-end-eq10
returns-then-s-end-eq10 c = (sym (behind (goal.at.returns-then-s-end-eq10 c).After-loop-i ∙ rw c.if-s-end-eq10.true), omega arith)

pub returns-then-s-end : goal.returns-then-s-end
returns-then-s-end c =
    (sym (behind (goal.at.returns-then-s-end c).After-loop-i ∙ rw (ne_eqb _ 10 c.if-s-end-eq10.false, c.if-s-end.true)), omega arith)

pub returns : goal.returns
returns c = behind (goal.at.returns c).After-loop-i ∙ rw (ne_eqb _ 10 c.if-s-end-eq10.false, c.if-s-end.false)
