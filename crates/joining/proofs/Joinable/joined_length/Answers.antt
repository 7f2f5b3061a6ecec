-- `joining::Joinable::joined_length` meets its contract: the length of what lies before, with a break after each line, is reckoned. Assumes nothing.
use Prim.Native.Nat.{◌+◌, ◌≤◌}
use native.Mathlib.Nat.{zero-add}
use native.Mathlib.Omega.{arith}
use mathlib.Core.Path.{◌≡◌, sym, ◌∙◌}
use lib.ListN.{length}
use Rattle.sieve.specs.Lines.{break_bytes}
use Rattle.joining.specs.Handing.{line_at, handed_bytes}
use Rattle.joining.proofs.Handing.{latest, no_later, all_breaks, length_here, no_bytes_left}
use Rattle.joining.proofs.Joinable.joined_length.Goals as goal
use Rattle.joining.proofs.Joinable.joined_length.Goals.{After-break_length, After-break_length-2}

-- there are no more bytes than there may be
onward : (c : After-break_length) → c.loop-i.bytes + length c.line.result.now + c.break_length.result ≤ latest (c.loop-i.i + 1)
onward c = no_later _ _ c.line.ensures.short c.break_length.ensures c.loop-i.invariant.1

-- after the loop no line is left, and the last one has a break after it that is not joined
all-reckoned : (c : After-break_length-2) → length (handed_bytes c.args.self.lines) + c.break_length-2.result ≡ c.loop-i.bytes
all-reckoned c =
    omega (arith, c.break_length-2.ensures, c.loop-i.invariant.2, no_bytes_left c.args.self.lines c.loop-i.i c.loop-i-test.false)

pub loop-i-init : goal.loop-i-init
loop-i-init c = (omega arith, omega arith, all_breaks c.args.self.lines c.args.self.joinable.one_or_more ∙ sym (zero-add _))

pub loop-i-preserved : goal.loop-i-preserved
loop-i-preserved c =
    let h = c.args.self.lines in
    let here : c.loop-i.bytes + length c.line.result.now + c.break_length.result ≡ c.loop-i.bytes + length (line_at h.text.now h.list.now c.loop-i.i) + length (break_bytes h.brk) = rw (c.line.ensures.bytes, c.break_length.ensures) in (
      omega (arith, c.loop-i-test.true),
      onward (goal.at.loop-i-preserved c).After-break_length,
      omega (arith, here, c.loop-i.invariant.2, length_here h c.loop-i.i c.loop-i-test.true),
    )

pub overflow_sub-result : goal.overflow_sub-result
overflow_sub-result c = omega (arith, all-reckoned (goal.at.overflow_sub-result c).After-break_length-2)

pub returns : goal.returns
returns c = omega (arith, all-reckoned (goal.at.returns c).After-break_length-2)
