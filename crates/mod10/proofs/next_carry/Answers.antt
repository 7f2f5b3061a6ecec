-- `mod10::next_carry` meets its contract: the lent table is the definition's, twice in a row. Assumes nothing.
use Prim.Native.Nat.{◌+◌, ◌-◌, ◌%◌}
use native.Mathlib.Omega.{arith}
use lib.ListN.{get_or-append}
use Rattle.sieve.specs.Mod10.{next_carry}
use Rattle.mod10.proofs.Carries.{twice}
use Rattle.mod10.proofs.next_carry.Goals as goal

pub returns-then-sum-lt20 : goal.returns-then-sum-lt20
returns-then-sum-lt20 c =
    let a = c.args in
    rw (c.requires.1, c.digit_value.ensures) (twice (a.c + (a.x - 48)) (omega arith))

pub returns : goal.returns
returns c =
    let a = c.args in
    rw (c.requires.1, c.digit_value.ensures) (get_or-append next_carry next_carry 0 ((a.c + (a.x - 48)) % 10) (omega arith))
