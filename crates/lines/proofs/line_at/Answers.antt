-- `lines::line_at` meets its contract. The invariant: the line that starts at `from` ends where one that started at `at` would. Assumes nothing.
use Prim.Native.Nat.{ℕ, ◌+◌}
use native.Mathlib.Omega.{arith}
use mathlib.Core.Path.{◌≡◌, sym, ◌∙◌, ap}
use lib.ListN.{length, drop, length-drop}
use Rattle.sieve.specs.Characters.{break_width}
use Rattle.lines.proofs.Fronts.{break_fits}
use Rattle.lines.proofs.FirstLine.{no_break, goes_on, stops, ends}
use Rattle.lines.proofs.line_at.Goals as goal
use Rattle.lines.proofs.line_at.Goals.{then-of_break+else-b-ne0, else-of_break}

pub overflow_add-next : goal.overflow_add-next
overflow_add-next c =
    let s = c.args.s.now in
    omega (arith, break_fits (drop c.loop-at.at s), length-drop c.loop-at.at s)

pub returns-then-b-ne0 : goal.returns-then-b-ne0
returns-then-b-ne0 c =
    let s = stops c.args.s.now c.loop-at.at c.loop-at-test.true (λ e. c.if-b-ne0.true (c.break_width-b.ensures ∙ e)) in
    record { end = omega arith; next = ap (λ (n : ℕ). c.loop-at.at + n) c.break_width-b.ensures }

pub loop-at-preserved : goal.loop-at-preserved
loop-at-preserved c =
    let s = c.args.s.now in
    let i = c.loop-at.at in
    let none : break_width (drop i s) ≡ 0 = elim c.if-of_break.branch [ then-of_break+else-b-ne0 w ↦ sym w.break_width-b.ensures ∙ w.if-b-ne0.false | else-of_break w ↦ no_break s i c.loop-at-test.true (sym c.of_break.ensures ∙ w.if-of_break.false) ] in
    omega (arith, goes_on s i c.loop-at-test.true none)

pub returns-then-from-s : goal.returns-then-from-s
returns-then-from-s c =
    let s = c.args.s.now in
    let e = ends s c.loop-at.at c.loop-at-test.false in
    let f = ends s (length s) (omega arith) in
    record { end = omega arith; next = omega arith }

pub returns-else-from-s : goal.returns-else-from-s
returns-else-from-s c =
    let e = ends c.args.s.now c.args.from c.if-from-s.false in
    record { end = omega arith; next = omega arith }
