-- The contract of each public function leaves one answer. Assumes nothing.
use mathlib.Core.Path.{refl, sym, ◌∙◌}
use Rattle.sieve.specs.OneAnswer.{OneAnswer}
use Rattle.mod97.specs.contracts as contracts
use Rattle.mod97.proofs as fn

pub one_remainder_after : OneAnswer contracts.remainder_after.ended fn.remainder_after.Reads.Learnt
one_remainder_after κs a x y v w h k = (h ∙ sym k, refl)

pub one_remainder97 : OneAnswer contracts.remainder97.ended fn.remainder97.Reads.Learnt
one_remainder97 κs a x y v w h k = (h ∙ sym k, refl)

pub one_remainder_after_by_table : OneAnswer contracts.remainder_after_by_table.ended fn.remainder_after_by_table.Reads.Learnt
one_remainder_after_by_table κs a x y v w h k = (h ∙ sym k, refl)

pub one_remainder97_by_table : OneAnswer contracts.remainder97_by_table.ended fn.remainder97_by_table.Reads.Learnt
one_remainder97_by_table κs a x y v w h k = (h ∙ sym k, refl)

pub one_checks97 : OneAnswer contracts.checks97.ended fn.checks97.Reads.Learnt
one_checks97 κs a x y v w h k = (h ∙ sym k, refl)

pub one_decimal : OneAnswer contracts.decimal.ended fn.decimal.Reads.Learnt
one_decimal κs a x y v w h k = (h ∙ sym k, refl)

pub one_checks97_with : OneAnswer contracts.checks97_with.ended fn.checks97_with.Reads.Learnt
one_checks97_with κs a x y v w h k = (h ∙ sym k, refl)
