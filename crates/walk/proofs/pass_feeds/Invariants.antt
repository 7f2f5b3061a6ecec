use Rattle.walk.specs.Here.{GoneThrough}
use Rattle.walk.proofs.pass_feeds.Given as goal

abbrev pub invariant-loop-left : goal.invariant-loop-left
invariant-loop-left l = GoneThrough l.s l.initial.places l.from (record { passed = l.initial.p; left = l.initial.left }) l.places (record { passed = l.p; left = l.left })

abbrev pub decreases-loop-left : goal.decreases-loop-left
decreases-loop-left l = l.left
