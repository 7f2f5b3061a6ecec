-- `walk::list_absent` meets its contract. The invariant: i lines are noted, and the others are absent. Assumes nothing.
use lib.ListN.{length-set}
use Rattle.walk.proofs.Coming.{one_absent, all_listed}
use Rattle.walk.proofs.list_absent.Goals as goal

pub loop-i-preserved : goal.loop-i-preserved
loop-i-preserved c = let l = c.loop-i in (simp length-set l.invariant.0, one_absent c.args.s.now l.places l.i c.loop-i-test.true l.invariant.0 l.invariant.1)

pub returns : goal.returns
returns c = let l = c.loop-i in all_listed c.args.s.now l.places _ l.i c.loop-i-test.false l.invariant.0 l.invariant.1
