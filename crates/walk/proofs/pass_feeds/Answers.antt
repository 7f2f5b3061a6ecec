-- `walk::pass_feeds` meets its contract: the loop keeps how the walk has gone through the sixteen bytes so far. Assumes nothing.
use Prim.Native.Nat.{◌+◌, ◌<◌}
use native.Mathlib.Omega.{arith}
use lib.ListN.{length}
use Rattle.walk.specs.Here.{Reached, Inside}
use Rattle.walk.proofs.Coming.{passable}
use Rattle.walk.proofs.BySixteens.{standing, and_through, mark_there, at_mark, over_one, feed_passed}
use Rattle.walk.proofs.pass_feeds.Goals as goal
use Rattle.walk.proofs.pass_feeds.Goals.{After-first_marked}

-- where the walk stands, and what is left is not nothing
inside : (f : After-first_marked) → Inside f.args.s.now f.loop-left.places f.args.from (record { passed = f.loop-left.p; left = f.loop-left.left })
inside f = standing f.requires f.loop-left.invariant

some : (f : After-first_marked) → 0 < f.loop-left.left
some f = omega (arith, f.loop-left-test.true)

there : (f : After-first_marked) → f.args.from + f.first_marked.result < length f.args.s.now
there f = mark_there (inside f) (some f) f.first_marked.ensures

here : (f : After-first_marked) → Reached f.args.s.now f.loop-left.places (f.args.from + f.first_marked.result) f.loop-left.p
here f = at_mark (inside f) (some f) f.first_marked.ensures

pub bounds-s-at : goal.bounds-s-at
bounds-s-at c = there (goal.at.bounds-s-at c).After-first_marked

pub overflow_sub-at : goal.overflow_sub-at
overflow_sub-at c = (here (goal.at.overflow_sub-at c).After-first_marked).here.before

pub pass-p-requires : goal.pass-p-requires
pass-p-requires c =
    let f = (goal.at.pass-p-requires c).After-first_marked in
    (c.pass-arg-1.given.0.1, passable 1 (here f).here (omega arith) (omega (arith, there f)))

pub loop-left-preserved : goal.loop-left-preserved
loop-left-preserved c =
    let f = (goal.at.loop-left-preserved c).After-first_marked in
    let over = feed_passed c.pass-arg-1.given.0.1 (there f) c.if-s-at-ne10.false in
    and_through c.loop-left.invariant (rw (c.later_marks-left.ensures, c.pass-p.ensures.places_after, c.pass-p.ensures.value) (over_one (some f) f.first_marked.ensures over))
