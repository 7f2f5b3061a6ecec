-- `lines::parts` meets its contract. The invariant: the breaks that were passed, and those that are left. Assumes nothing.
use Prim.Native.Nat.{◌+◌, ◌≤◌, ◌<◌}
use native.Mathlib.Omega.{arith}
use mathlib.Core.Path.{◌≡◌, sym, ap, ◌∙◌}
use lib.ListN.{drop}
use Rattle.sieve.specs.Lines.{cut, breaks_of}
use Rattle.lines.specs.declared.BreaksPassed.{BreaksPassed}
use Rattle.lines.proofs.LinesAt.{within}
use Rattle.lines.proofs.Parting.{from_first, unbroken, broken}
use Rattle.lines.proofs.Holding.{held_from, one_held, all_held}
use Rattle.lines.proofs.parts.Goals as goal
use Rattle.lines.proofs.parts.Goals.{After-line_at-line}

-- the next line starts after this one, where a break ends it
more : (c : After-line_at-line) → (c.line_at-line.result.next ≡ c.line_at-line.result.end → ⊥) → (c.loop-breaks.at ≤ c.line_at-line.result.end) × (c.line_at-line.result.end < c.line_at-line.result.next)
more c h = (omega (arith, c.line_at-line.ensures.end), omega (arith, c.line_at-line.ensures.next))

pub loop-breaks-init : goal.loop-breaks-init
loop-breaks-init c = (omega arith, omega arith, from_first _)

pub returns-then-next-end : goal.returns-then-next-end
returns-then-next-end c =
    let s = c.args.s.now in
    c.parted_by.ensures ∙ sym (c.loop-breaks.invariant.2 ∙ ap (held_from c.loop-breaks.breaks c.loop-breaks.n) (unbroken s c.loop-breaks.at c.line_at-line.result c.line_at-line.ensures (omega (arith, c.if-next-end.true))) ∙ all_held c.loop-breaks.breaks c.loop-breaks.n)

pub loop-breaks-smaller : goal.loop-breaks-smaller
loop-breaks-smaller c =
    omega (arith, more (goal.at.loop-breaks-smaller c).After-line_at-line c.if-next-end.false, within c.args.s.now c.loop-breaks.at c.line_at-line.result c.line_at-line.ensures c.loop-breaks.invariant.0)

pub loop-breaks-preserved : goal.loop-breaks-preserved
loop-breaks-preserved c =
    let s = c.args.s.now in
    let r = c.line_at-line.result in
    let further = more (goal.at.loop-breaks-preserved c).After-line_at-line c.if-next-end.false in
    let (fits, few, is) = c.loop-breaks.invariant in
    let b = broken s c.loop-breaks.at r c.line_at-line.ensures (λ w. omega arith) in (
      within s c.loop-breaks.at r c.line_at-line.ensures fits,
      omega arith,
      is ∙ ap (held_from c.loop-breaks.breaks c.loop-breaks.n) (rw (← c.break_of.ensures) at b.breaks)
          ∙ one_held c.loop-breaks.breaks c.break_of.result c.loop-breaks.n _
          ∙ ap (λ (h : BreaksPassed). held_from h (c.loop-breaks.n + 1) (breaks_of (cut (drop r.next s)))) (sym c.held-breaks.ensures),
    )
