-- The contract of each public function leaves one answer. Assumes nothing.
use mathlib.Core.Path.{refl, sym, ◌∙◌}
use Rattle.sieve.specs.OneAnswer.{OneAnswer}
use Rattle.swiss_forms.specs.contracts as contracts
use Rattle.swiss_forms.proofs as fn

pub one_iban : OneAnswer contracts.iban.ended fn.iban.Reads.Learnt
one_iban κs a x y v w h k = (h ∙ sym k, refl)

pub one_qr_iban : OneAnswer contracts.qr_iban.ended fn.qr_iban.Reads.Learnt
one_qr_iban κs a x y v w h k = (h ∙ sym k, refl)

pub one_country : OneAnswer contracts.country.ended fn.country.Reads.Learnt
one_country κs a x y v w h k = (h ∙ sym k, refl)

pub one_amount : OneAnswer contracts.amount.ended fn.amount.Reads.Learnt
one_amount κs a x y v w h k = (h ∙ sym k, refl)

pub one_billing : OneAnswer contracts.billing.ended fn.billing.Reads.Learnt
one_billing κs a x y v w h k = (h ∙ sym k, refl)

pub one_qrr : OneAnswer contracts.qrr.ended fn.qrr.Reads.Learnt
one_qrr κs a x y v w h k = (h ∙ sym k, refl)

pub one_scor : OneAnswer contracts.scor.ended fn.scor.Reads.Learnt
one_scor κs a x y v w h k = (h ∙ sym k, refl)

pub one_iban_right : OneAnswer contracts.iban_right.ended fn.iban_right.Reads.Learnt
one_iban_right κs a x y v w h k = (h ∙ sym k, refl)

pub one_scor_right : OneAnswer contracts.scor_right.ended fn.scor_right.Reads.Learnt
one_scor_right κs a x y v w h k = (h ∙ sym k, refl)
