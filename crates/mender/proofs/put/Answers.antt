-- `mender::put` meets its contract, by the four kinds of byte. Assumes nothing.
use native.Mathlib.Omega.{arith}
use borrow.Author.Tests.{ne_eqb}
use Rattle.mender.proofs.Sweeps.{after_feed, after_taken, after_space, after_other}
use Rattle.mender.proofs.put.Goals as goal

pub returns-then-x-eq10-clause-carries : goal.returns-then-x-eq10-clause-carries
returns-then-x-eq10-clause-carries c = λ all rest st. after_feed (rw c.if-x-eq10.true at st) (omega (arith, c.requires.ordered, c.requires.within_room))

pub returns-then-s-clause-carries : goal.returns-then-s-clause-carries
returns-then-s-clause-carries c = λ all rest st. after_taken c.if-s.true (rw c.if-x-eq32.true at st)

pub returns-then-x-eq32-clause-carries : goal.returns-then-x-eq32-clause-carries
returns-then-x-eq32-clause-carries c = λ all rest st. after_space c.if-s.false (rw c.if-x-eq32.true at st) c.requires.within_room

pub returns-clause-carries : goal.returns-clause-carries
returns-clause-carries c = let x = c.args.x in λ all rest st. after_other x (ne_eqb x 10 c.if-x-eq10.false) (ne_eqb x 32 c.if-x-eq32.false) st c.requires.within_room
