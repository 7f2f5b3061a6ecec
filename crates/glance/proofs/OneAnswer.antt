-- The contract of `glance` leaves one answer. Assumes nothing.
use mathlib.Core.Path.{refl, sym, ◌∙◌}
use Rattle.sieve.specs.OneAnswer.{OneAnswer}
use Rattle.glance.specs.contracts as contracts
use Rattle.glance.proofs as fn

pub one_glance : OneAnswer contracts.glance.ended fn.glance.Reads.Learnt
one_glance κs a x y v w h k = (h ∙ sym k, refl)
