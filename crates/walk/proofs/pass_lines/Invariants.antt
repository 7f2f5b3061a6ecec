use Prim.Native.Nat.{◌+◌, ◌-◌}
use mathlib.Core.Bool.{cond}
use lib.Dec.{ltb}
use lib.ListN.{length}
use Rattle.walk.proofs.BySixteens.{On, Onward}
use Rattle.walk.proofs.pass_lines.Given as goal

abbrev pub invariant-loop-from-2 : goal.invariant-loop-from-2
invariant-loop-from-2 l = Onward l.s l.initial.places l.initial.from l.initial.keep l.initial.p l.places l.from l.keep l.p

abbrev pub decreases-loop-from-2 : goal.decreases-loop-from-2
decreases-loop-from-2 l = length l.s - l.from

abbrev pub invariant-loop-from : goal.invariant-loop-from
invariant-loop-from l = On l.s l.initial.places l.initial.from l.initial.p l.places l.from l.keep l.p

abbrev pub decreases-loop-from : goal.decreases-loop-from
decreases-loop-from l = cond (ltb l.last l.from) (length l.s + 1) (length l.s - l.from)
