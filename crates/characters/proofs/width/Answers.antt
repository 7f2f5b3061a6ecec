-- `characters::width` meets its contract: its tests are those of `latin`, where a byte below C2 passes none but the first, and E2 none but the last. Assumes nothing.
use mathlib.Core.Bool.{cond}
use mathlib.Core.Path.{◌≡◌}
use lib.ListN.{drop}
use borrow.Author.Tests.{ne_eqb}
use Rattle.sieve.specs.Latin.{latin}
use Rattle.sieve.proofs.Latin.{low}
use Rattle.characters.proofs.width.Goals as goal
use Rattle.characters.proofs.width.Goals.{After-in_three, After-in_two}

-- what begins with E2 is of three bytes, or none
three : (c : After-in_three) → let a = c.args in latin (drop a.at a.s.now) ≡ cond c.in_three.result 3 0
unfolding latin
three c =
    rw (← c.byte-x.ensures, ← c.of_kind.ensures, c.if-of_kind.false, ← c.byte-y.ensures, ← c.byte.ensures, ← c.in_three.ensures, c.if-x.true)

-- any other is of two, or none
two : (c : After-in_two) → let a = c.args in latin (drop a.at a.s.now) ≡ cond c.in_two.result 2 0
unfolding latin
two c =
    rw (← c.byte-x.ensures, ← c.of_kind.ensures, c.if-of_kind.false, ← c.byte-y.ensures, ← c.in_two.ensures, ne_eqb c.byte-x.result 0xE2 c.if-x.false)

pub returns-then-of_kind : goal.returns-then-of_kind
unfolding latin
returns-then-of_kind c = rw (← c.byte-x.ensures, ← c.of_kind.ensures, c.if-of_kind.true)

pub returns-then-x-lt194 : goal.returns-then-x-lt194
returns-then-x-lt194 c =
    let x = c.byte-x.ensures in
    let a = c.args in
    rw (low (drop a.at a.s.now) (rw x at c.if-x-lt194.true), ← x, ← c.of_kind.ensures, c.if-of_kind.false)

pub returns-then-in_three : goal.returns-then-in_three
returns-then-in_three c = rw (three (goal.at.returns-then-in_three c).After-in_three, c.if-in_three.true)

pub returns-then-x : goal.returns-then-x
returns-then-x c = rw (three (goal.at.returns-then-x c).After-in_three, c.if-in_three.false)

pub returns-then-in_two : goal.returns-then-in_two
returns-then-in_two c = rw (two (goal.at.returns-then-in_two c).After-in_two, c.if-in_two.true)

pub returns : goal.returns
returns c = rw (two (goal.at.returns c).After-in_two, c.if-in_two.false)
