use Rattle.mod10.proofs.Carries.{Carried}
use Rattle.mod10.proofs.check_digit_of_digits.Given as goal

abbrev pub invariant-loop-x : goal.invariant-loop-x
invariant-loop-x l = Carried l.s l.carry l.x-index
