-- `joining::Handed::lay_lines` meets its contract: the front of the destination holds what is laid of the joined bytes, and the rest is still to come. Assumes nothing.
use Prim.Native.Nat.{◌+◌}
use native.Mathlib.Omega.{arith}
use mathlib.Core.List.{[]}
use mathlib.Core.Path.{◌≡◌, ap, ◌∙◌}
use lib.ListN.{length, drop, length-drop}
use Rattle.sieve.specs.Lines.{joined}
use Rattle.joining.specs.Handing.{handed_bytes, with_break}
use Rattle.joining.proofs.Handing.{left, none_left, joined_next}
use Rattle.joining.proofs.Laying.{whole, Ahead, in_tail, laid_behind}
use Rattle.joining.proofs.Handed.lay_lines.Goals as goal
use Rattle.joining.proofs.Handed.lay_lines.Goals.{After-line}

-- a line with what comes after it comes next of the joined bytes
comes-next : (c : After-line)
    → let h = c.args.self in
    Ahead (handed_bytes h) c.loop-i.n (with_break c.line.result.now c.then_some-after.result) (joined h.brk (left h (c.loop-i.i + 1)))
comes-next c =
    record { is = c.loop-i.invariant.2 ∙ rw (c.line.ensures.bytes, c.then_some-after.ensures) (joined_next c.args.self c.loop-i.i c.loop-i-test.true) }

pub lay_line-n-requires : goal.lay_line-n-requires
lay_line-n-requires c =
    in_tail c.loop-i.invariant.1 c.requires.room (comes-next (goal.at.lay_line-n-requires c).After-line)

pub loop-i-preserved : goal.loop-i-preserved
loop-i-preserved c =
    let laid = laid_behind c.loop-i.invariant.1 c.requires.room (comes-next (goal.at.loop-i-preserved c).After-line) c.lay_line-n.ensures.value c.lay_line-n.ensures.dest_after in
    (omega (arith, c.loop-i-test.true), laid.0, laid.1)

pub returns : goal.returns
returns c =
    let h = c.args.self in
    let J = handed_bytes h in
    let done : drop c.loop-i.n J ≡ [] = c.loop-i.invariant.2 ∙ ap (joined h.brk) (none_left h c.loop-i.i c.loop-i-test.false) in
    (whole (omega (arith, ap length done, length-drop c.loop-i.n J)) c.loop-i.invariant.1).1
