-- `shown::places_in` meets its contract: line after line, two numbers each. Assumes nothing.
use Rattle.shown.proofs.Taking.{one_taken, all_taken}
use Rattle.shown.proofs.places_in.Goals as goal

pub loop-i-preserved : goal.loop-i-preserved
loop-i-preserved c = one_taken _ c.loop-i.invariant c.loop-i-test.true

pub returns : goal.returns
returns c = all_taken _ c.loop-i.invariant c.loop-i-test.false
