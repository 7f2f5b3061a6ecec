-- The contract of each public function leaves one answer. Assumes nothing.
use mathlib.Core.Path.{refl, sym, ◌∙◌}
use Rattle.sieve.specs.OneAnswer.{OneAnswer}
use Rattle.sieve.specs.contracts as contracts
use Rattle.sieve.proofs as fn

pub one_number_of : OneAnswer contracts.number_of.ended fn.number_of.Reads.Learnt
one_number_of κs a x y v w h k = (h ∙ sym k, refl)

pub one_line_of : OneAnswer contracts.line_of.ended fn.line_of.Reads.Learnt
one_line_of κs a x y v w h k = (h ∙ sym k, refl)

pub one_place_of : OneAnswer contracts.place_of.ended fn.place_of.Reads.Learnt
one_place_of κs a x y v w h k = (h ∙ sym k, refl)
