-- The contract of each public function leaves one answer. Assumes nothing.
use mathlib.Core.Path.{refl, sym, ◌∙◌}
use Rattle.sieve.specs.OneAnswer.{OneAnswer}
use Rattle.mod10.specs.contracts as contracts
use Rattle.mod10.proofs as fn

pub one_check_digit : OneAnswer contracts.check_digit.ended fn.check_digit.Reads.Learnt
one_check_digit κs a x y v w h k = (h ∙ sym k, refl)

pub one_check_digit_of_digits : OneAnswer contracts.check_digit_of_digits.ended fn.check_digit_of_digits.Reads.Learnt
one_check_digit_of_digits κs a x y v w h k = (h ∙ sym k, refl)

pub one_checks10 : OneAnswer contracts.checks10.ended fn.checks10.Reads.Learnt
one_checks10 κs a x y v w h k = (h ∙ sym k, refl)
