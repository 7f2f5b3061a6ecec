-- `joining::Joinable::first_stray` meets its contract: what was not found before is found among the lines from here on. Assumes nothing.
use Prim.Native.Nat.{◌+◌, ◌≤◌}
use native.Mathlib.Omega.{arith}
use mathlib.Core.Path.{◌≡◌, sym, ap, ◌∙◌}
use lib.ListN.{length}
use Rattle.sieve.specs.Lines.{of_break, break_bytes}
use Rattle.sieve.proofs.Findings.{such_within}
use Rattle.sieve.proofs.Options.{answered_some, answered_none}
use Rattle.joining.specs.Handing.{line_at, first_stray}
use Rattle.joining.proofs.Handing.{latest, no_later, stray_from, stray_here, stray_later, no_stray_left}
use Rattle.joining.proofs.Joinable.first_stray.Goals as goal
use Rattle.joining.proofs.Joinable.first_stray.Goals.{After-break_length}

-- the next line starts no later than it may
onward : (c : After-break_length)
    → c.loop-i.at + length c.line-line.result.now + c.break_length.result ≤ latest (c.loop-i.i + 1)
onward c = no_later _ _ c.line-line.ensures.short c.break_length.ensures c.loop-i.invariant.1

pub overflow_add-result-in-Some : goal.overflow_add-result-in-Some
overflow_add-result-in-Some c =
    omega (arith, c.args.self.joinable.few, c.line-line.ensures.short, such_within of_break 0 _ _ (answered_some _ _ (sym c.in-Some.is ∙ c.stray_break.ensures)))

pub returns-in-Some : goal.returns-in-Some
unfolding first_stray
returns-in-Some c =
    rw (c.loop-i.invariant.2, stray_here c.args.self.lines c.loop-i.i c.loop-i.at c.loop-i-test.true c.in-Some.j (rw c.line-line.ensures.bytes at (answered_some _ _ (sym c.in-Some.is ∙ c.stray_break.ensures))))

pub loop-i-preserved : goal.loop-i-preserved
loop-i-preserved c =
    let taken = c.loop-i-test.true in
    let h = c.args.self.lines in
    let line = c.line-line.ensures.bytes in
    let clear = answered_none _ (sym c.in-None.is ∙ c.stray_break.ensures) in
    let here : c.loop-i.at + length c.line-line.result.now + c.break_length.result ≡ c.loop-i.at + length (line_at h.text.now h.list.now c.loop-i.i) + length (break_bytes h.brk) = rw (line, c.break_length.ensures) in (
      omega (arith, taken),
      onward (goal.at.loop-i-preserved c).After-break_length,
      c.loop-i.invariant.2 ∙ stray_later h c.loop-i.i c.loop-i.at taken (rw line at clear) ∙ ap (stray_from h (c.loop-i.i + 1)) (sym here),
    )

pub returns : goal.returns
unfolding first_stray
returns c = rw (c.loop-i.invariant.2, no_stray_left c.args.self.lines c.loop-i.i c.loop-i.at c.loop-i-test.false)
