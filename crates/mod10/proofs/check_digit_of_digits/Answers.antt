-- `mod10::check_digit_of_digits` meets its contract, digit by digit. Assumes nothing.
use Rattle.mod10.proofs.Carries.{one_carried, all_carried}
use Rattle.mod10.proofs.check_digit_of_digits.Goals as goal

pub loop-x-preserved : goal.loop-x-preserved
loop-x-preserved c = one_carried c.loop-x.invariant c.loop-x-test.true c.carry_after-carry.ensures

pub returns : goal.returns
returns c = all_carried c.loop-x.invariant c.loop-x-test.false c.due.ensures
