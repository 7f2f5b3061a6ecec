-- The contract of each public function leaves one answer. Assumes nothing.
use mathlib.Core.Path.{refl, sym, ◌∙◌}
use Rattle.sieve.specs.OneAnswer.{OneAnswer}
use Rattle.swiss_address.specs.contracts as contracts
use Rattle.swiss_address.proofs as fn

pub one_text : OneAnswer contracts.text.ended fn.text.Reads.Learnt
one_text κs a x y v w h k = (h ∙ sym k, refl)

pub one_vacant : OneAnswer contracts.vacant.ended fn.vacant.Reads.Learnt
one_vacant κs a x y v w h k = (h ∙ sym k, refl)

pub one_address : OneAnswer contracts.address.ended fn.address.Reads.Learnt
one_address κs a x y v w h k = (h ∙ sym k, refl)

pub one_address_if_any : OneAnswer contracts.address_if_any.ended fn.address_if_any.Reads.Learnt
one_address_if_any κs a x y v w h k = (h ∙ sym k, refl)
