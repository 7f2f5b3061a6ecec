-- `glance::ends_at` meets its contract: nothing stands at the place; or LF, or CR and LF after it. Assumes nothing.
use native.Mathlib.Omega.{arith}
use mathlib.Core.Path.{sym, ◌∙◌}
use lib.Dec.{eqb}
use lib.ListN.{get_or}
use borrow.Author.Tests.{ne_eqb}
use Rattle.glance.proofs.Fronts.{ends_last, ends_by_break, no_second}
use Rattle.glance.proofs.ends_at.Goals as goal

pub returns-then-at-head : goal.returns-then-at-head
returns-then-at-head c =
    let a = c.args in
    sym (ends_last a.head.now a.at a.more (omega (arith, c.if-at-head.true)))

pub returns-then-head-at-eq10 : goal.returns-then-head-at-eq10
returns-then-head-at-eq10 c =
    let a = c.args in
    sym (ends_by_break a.head.now a.at a.more (omega (arith, c.requires, c.if-at-head.false)) ∙ rw c.if-head-at-eq10.true)

pub returns-then-at-head-2 : goal.returns-then-at-head-2
returns-then-at-head-2 c =
    let a = c.args in
    sym (ends_by_break a.head.now a.at a.more (omega (arith, c.if-at-head-2.true)) ∙ rw (ne_eqb _ 10 c.if-head-at-eq10.false) (no_second a.head.now a.at (eqb (get_or a.head.now a.at 0) 13) (omega (arith, c.if-at-head-2.true))))

pub returns : goal.returns
returns c =
    let a = c.args in
    sym (ends_by_break a.head.now a.at a.more (omega (arith, c.requires, c.if-at-head.false)) ∙ rw (ne_eqb _ 10 c.if-head-at-eq10.false))
