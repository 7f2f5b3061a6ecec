-- `mod10::check_digit` meets its contract, byte by byte. Assumes nothing.
use Rattle.mod10.proofs.Carries.{one_carried, all_carried}
use Rattle.mod10.proofs.check_digit.Goals as goal

pub loop-x-preserved : goal.loop-x-preserved
loop-x-preserved c = one_carried c.loop-x.invariant c.loop-x-test.true c.next_carry-c.ensures

pub returns : goal.returns
returns c = all_carried c.loop-x.invariant c.loop-x-test.false c.due.ensures
