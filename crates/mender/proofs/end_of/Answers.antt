-- `mender::end_of` meets its contract: line after line goes from the end. Assumes nothing.
use Prim.Native.Nat.{◌+◌, ◌-◌}
use native.Mathlib.Omega.{arith}
use mathlib.Core.Path.{◌≡◌}
use Rattle.mender.proofs.Ends.{few_lines, more_bytes, other_last, feed_last}
use Rattle.mender.proofs.end_of.Goals as goal

pub overflow_sub-end : goal.overflow_sub-end
overflow_sub-end c = more_bytes _ c.loop.invariant (omega (arith, c.loop-test.true))

pub bounds-bytes-end : goal.bounds-bytes-end
bounds-bytes-end c =
    let e = c.loop.invariant in
    omega (arith, e.inside, more_bytes _ e (omega (arith, c.loop-test.true)))

pub returns-then-bytes-end-ne10 : goal.returns-then-bytes-end-ne10
returns-then-bytes-end-ne10 c = other_last _ c.loop.invariant (omega (arith, c.loop-test.true)) c.if-bytes-end-ne10.true

pub overflow_sub-end-in-loop : goal.overflow_sub-end-in-loop
overflow_sub-end-in-loop c = more_bytes _ c.loop.invariant (omega (arith, c.loop-test.true))

pub loop-preserved : goal.loop-preserved
loop-preserved c =
    let one_less : c.args.lines + 31 - c.loop.counter - 1 ≡ c.args.lines + 31 - (c.loop.counter + 1) = omega arith in
    rw one_less at (feed_last _ c.loop.invariant (omega (arith, c.loop-test.true)) c.if-bytes-end-ne10.false)

pub returns : goal.returns
returns c = few_lines _ c.loop.invariant (omega (arith, c.loop-test.false))
