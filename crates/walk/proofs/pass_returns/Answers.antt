-- `walk::pass_returns` meets its contract: the loop keeps how the walk has gone through the sixteen bytes so far. Assumes nothing.
use Prim.Native.Nat.{◌+◌, ◌<◌}
use native.Mathlib.Omega.{arith}
use mathlib.Core.Path.{refl, ap, ◌∙◌}
use lib.ListN.{length}
use Rattle.characters.specs.Marks.{without_first}
use Rattle.walk.specs.Here.{Reached, Inside}
use Rattle.walk.proofs.Coming.{passable}
use Rattle.walk.proofs.BySixteens.{standing, and_through, mark_there, two_there, at_mark, over_two, return_passed}
use Rattle.walk.proofs.pass_returns.Goals as goal
use Rattle.walk.proofs.pass_returns.Goals.{After-first_marked, Else-later-eq0}

-- where the walk stands, where a mark is found, and what is left is not nothing
inside : (f : After-first_marked) → Inside f.args.s.now f.loop-left.places f.args.from (record { passed = f.loop-left.p; left = f.loop-left.left })
inside f = standing f.requires f.loop-left.invariant

some : (f : After-first_marked) → 0 < f.loop-left.left
some f = omega (arith, f.loop-left-test.true)

there : (f : After-first_marked) → f.args.from + f.first_marked.result < length f.args.s.now
there f = mark_there (inside f) (some f) f.first_marked.ensures

here : (f : After-first_marked) → Reached f.args.s.now f.loop-left.places (f.args.from + f.first_marked.result) f.loop-left.p
here f = at_mark (inside f) (some f) f.first_marked.ensures

-- a second mark is left, so that there is a byte behind the first
more : (e : Else-later-eq0) → 0 < without_first e.loop-left.left
more e = omega (arith, e.later_marks-later.ensures, e.if-later-eq0.false)

second : (e : Else-later-eq0) → e.args.from + e.first_marked.result + 1 < length e.args.s.now
second e = two_there (standing e.requires e.loop-left.invariant) (omega (arith, e.loop-left-test.true)) e.first_marked.ensures (more e)

pub bounds-s-at : goal.bounds-s-at
bounds-s-at c = there (goal.at.bounds-s-at c).After-first_marked

pub bounds-s-at-in-loop-left : goal.bounds-s-at-in-loop-left
bounds-s-at-in-loop-left c = second (goal.at.bounds-s-at-in-loop-left c).Else-later-eq0

pub overflow_sub-at : goal.overflow_sub-at
overflow_sub-at c = (here (goal.at.overflow_sub-at c).After-first_marked).here.before

pub pass-p-requires : goal.pass-p-requires
pass-p-requires c =
    let at = goal.at.pass-p-requires c in
    (c.pass-arg-1.given.0.1, passable 2 (here at.After-first_marked).here (omega arith) (omega (arith, second at.Else-later-eq0)))

pub loop-left-preserved : goal.loop-left-preserved
loop-left-preserved c =
    let f = (goal.at.loop-left-preserved c).After-first_marked in
    let e = (goal.at.loop-left-preserved c).Else-later-eq0 in
    let feed = c.if-s-at-ne10.false in
    let over = return_passed c.pass-arg-1.given.0.1 (there f) c.if-s-at-ne13.false feed in
    let left_is = c.later_marks-left.ensures ∙ ap without_first e.later_marks-later.ensures in
    and_through c.loop-left.invariant (rw (left_is, c.pass-p.ensures.places_after, c.pass-p.ensures.value) (over_two (some f) f.first_marked.ensures (more e) (rw feed refl) over))
