-- The contract of each public function leaves one answer. Assumes nothing.
use mathlib.Core.Path.{refl, sym, ◌∙◌}
use Rattle.sieve.specs.OneAnswer.{OneAnswer}
use Rattle.giro_forms.specs.contracts as contracts
use Rattle.giro_forms.proofs as fn

pub one_unread_coding : OneAnswer contracts.unread_coding.ended fn.unread_coding.Reads.Learnt
one_unread_coding κs a x y v w h k = (h ∙ sym k, refl)

pub one_bic : OneAnswer contracts.bic.ended fn.bic.Reads.Learnt
one_bic κs a x y v w h k = (h ∙ sym k, refl)

pub one_iban : OneAnswer contracts.iban.ended fn.iban.Reads.Learnt
one_iban κs a x y v w h k = (h ∙ sym k, refl)

pub one_amount : OneAnswer contracts.amount.ended fn.amount.Reads.Learnt
one_amount κs a x y v w h k = (h ∙ sym k, refl)

pub one_basic : OneAnswer contracts.basic.ended fn.basic.Reads.Learnt
one_basic κs a x y v w h k = (h ∙ sym k, refl)
