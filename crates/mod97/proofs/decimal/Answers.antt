-- `mod97::decimal` meets its contract. The invariant: the digits so far make the number so far, and those left are digits. Assumes nothing.
use native.Mathlib.Omega.{arith}
use Rattle.mod97.proofs.Readings.{room, one_read, all_read}
use Rattle.mod97.proofs.decimal.Goals as goal

pub overflow_mul-n : goal.overflow_mul-n
overflow_mul-n c = omega (arith, room c.loop-x.invariant (omega (arith, c.requires)))

pub overflow_add-n : goal.overflow_add-n
overflow_add-n c = omega (arith, room c.loop-x.invariant (omega (arith, c.requires)))

pub loop-x-preserved : goal.loop-x-preserved
loop-x-preserved c =
    one_read c.loop-x.invariant _ c.loop-x-test.true c.wide_digit.ensures.0 c.wide_digit.ensures.1

pub returns : goal.returns
returns c = all_read c.loop-x.invariant c.loop-x-test.false
