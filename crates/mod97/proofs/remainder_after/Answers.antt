-- `mod97::remainder_after` meets its contract. The invariant: what is left, after the number so far, leaves the same remainder. Assumes nothing.
use Rattle.mod97.proofs.Remainders.{carried, one_read, none_left}
use Rattle.mod97.proofs.remainder_after.Goals as goal

pub loop-x-init : goal.loop-x-init
loop-x-init c = carried c.args.n c.args.s.now

pub loop-x-preserved : goal.loop-x-preserved
loop-x-preserved c =
    let a = c.args in
    rw c.extended-r.ensures (one_read a.n c.loop-x.r c.reduced.result a.s.now c.loop-x.x-index c.loop-x-test.true c.reduced.ensures.0 c.loop-x.invariant)

pub returns : goal.returns
returns c =
    let a = c.args in
    none_left a.n c.loop-x.r a.s.now c.loop-x.x-index c.loop-x-test.false c.loop-x.invariant
