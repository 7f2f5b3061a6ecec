-- The contract of each public function leaves one answer. Assumes nothing.
use mathlib.Core.Path.{refl, sym, ◌∙◌}
use Rattle.sieve.specs.OneAnswer.{OneAnswer}
use Rattle.swiss.specs.contracts as contracts
use Rattle.swiss.proofs as fn

pub one_permits_combined : OneAnswer contracts.Edition.permits_combined.ended fn.Edition.permits_combined.Reads.Learnt
one_permits_combined κs a x y v w h k = (h ∙ sym k, refl)

pub one_permits_qrr_in_euros : OneAnswer contracts.Edition.permits_qrr_in_euros.ended fn.Edition.permits_qrr_in_euros.Reads.Learnt
one_permits_qrr_in_euros κs a x y v w h k = (h ∙ sym k, refl)
