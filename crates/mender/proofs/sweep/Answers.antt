-- `mender::sweep` meets its contract, byte by byte. Assumes nothing.
use native.Mathlib.Omega.{arith}
use mathlib.Core.Path.{refl}
use Rattle.mender.proofs.Passing.{first_byte, after_last}
use Rattle.mender.proofs.sweep.Goals as goal

pub loop-i-init : goal.loop-i-init
loop-i-init c = (first_byte _ _, refl)

pub returns : goal.returns
returns c =
    after_last c.loop-i.invariant.0 c.loop-i-test.false (omega (arith, c.loop-i.invariant.1, c.requires.0))
