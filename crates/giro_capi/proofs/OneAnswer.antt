-- The contract of each public function leaves one answer. Assumes nothing.
use mathlib.Core.Path.{refl, sym, ap, ◌∙◌}
use Rattle.sieve.specs.OneAnswer.{OneAnswer}
use Rattle.giro_capi.specs.contracts as contracts
use Rattle.giro_capi.proofs as fn

pub one_girocode_read : OneAnswer contracts.girocode_read.ended fn.girocode_read.Reads.Learnt
one_girocode_read κs a x y v w h k = (h ∙ sym k, refl)

pub one_girocode_line : OneAnswer contracts.girocode_line.ended fn.girocode_line.Reads.Learnt
one_girocode_line κs a x y v w h k = (h ∙ sym k, refl)

-- the list at exit too
pub one_girocode_places : OneAnswer contracts.girocode_places.ended fn.girocode_places.Reads.Learnt
one_girocode_places κs a x y v w h k = (h.number ∙ sym k.number, ap (λ d. (tt, (d, tt))) (h.lent ∙ sym k.lent))

-- the destination at exit too
pub one_girocode_write : OneAnswer contracts.girocode_write.ended fn.girocode_write.Reads.Learnt
one_girocode_write κs a x y v w h k = (h.number ∙ sym k.number, ap (λ d. (tt, (tt, (tt, (tt, (d, tt)))))) (h.lent ∙ sym k.lent))
