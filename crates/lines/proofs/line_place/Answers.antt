-- `lines::line_place` meets its contract. The invariant: what is looked for is the line so many behind the one at `at`. Assumes nothing.
use Prim.Native.Nat.{suc, ◌+◌, ◌-◌}
use native.Mathlib.Omega.{arith}
use mathlib.Core.Path.{◌≡◌, refl, ◌∙◌}
use lib.ListN.{get_or}
use Rattle.lines.specs.LinesIn.{lines_in, lines_at, line_of}
use Rattle.lines.proofs.LinesLie.{absent, this_line, past_last, after_this}
use Rattle.lines.proofs.line_place.Goals as goal
use Rattle.lines.proofs.line_place.Goals.{After-line_at-line}

-- more than one line is left to go
more : (c : After-line_at-line) → line_of c.args.s.now c.args.n ≡ get_or (lines_at c.args.s.now c.loop.at) (suc (c.args.n - (c.loop.counter + 1))) (absent c.args.s.now)
more c =
    let q : c.args.n - c.loop.counter ≡ suc (c.args.n - (c.loop.counter + 1)) = omega (arith, c.loop-test.true) in
    rw q at c.loop.invariant

pub loop-init : goal.loop-init
unfolding line_of lines_in
loop-init c = refl

pub returns-then-line : goal.returns-then-line
returns-then-line c =
    let f = c.line_at-line in
    let e = more (goal.at.returns-then-line c).After-line_at-line ∙ past_last c.args.s.now c.loop.at f.result f.ensures c.if-line.true _ in
    record { start = rw e; bytes = rw e }

pub loop-preserved : goal.loop-preserved
loop-preserved c =
    let f = c.line_at-line in
    more (goal.at.loop-preserved c).After-line_at-line ∙ after_this c.args.s.now c.loop.at f.result f.ensures c.if-line.false _

pub returns : goal.returns
returns c =
    let f = c.line_at-line-2 in
    let q : c.args.n - c.loop.counter ≡ 0 = omega (arith, c.loop-test.false) in
    rw (c.loop.invariant, q) (this_line c.args.s.now c.loop.at f.result f.ensures)
