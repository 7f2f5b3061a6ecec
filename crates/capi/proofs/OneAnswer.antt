-- The contract of each public function leaves one answer. Assumes nothing.
use mathlib.Core.Path.{refl, sym, ap, ap₂, ◌∙◌}
use Rattle.sieve.specs.OneAnswer.{OneAnswer}
use Rattle.scanner.specs.declared.Scan.{Scan}
use Rattle.capi.specs.contracts as contracts
use Rattle.capi.proofs as fn

pub one_qrbill_read : OneAnswer contracts.qrbill_read.ended fn.qrbill_read.Reads.Learnt
one_qrbill_read κs a x y v w h k = (h ∙ sym k, refl)

pub one_qrbill_line : OneAnswer contracts.qrbill_line.ended fn.qrbill_line.Reads.Learnt
one_qrbill_line κs a x y v w h k = (h ∙ sym k, refl)

pub one_qrbill_glance : OneAnswer contracts.qrbill_glance.ended fn.qrbill_glance.Reads.Learnt
one_qrbill_glance κs a x y v w h k = (h ∙ sym k, refl)

-- the list at exit too
pub one_qrbill_places : OneAnswer contracts.qrbill_places.ended fn.qrbill_places.Reads.Learnt
one_qrbill_places κs a x y v w h k = (h.number ∙ sym k.number, ap (λ d. (tt, (d, tt))) (h.lent ∙ sym k.lent))

-- the destination at exit too
pub one_qrbill_write : OneAnswer contracts.qrbill_write.ended fn.qrbill_write.Reads.Learnt
one_qrbill_write κs a x y v w h k = (h.number ∙ sym k.number, ap (λ d. (tt, (tt, (tt, (tt, (d, tt)))))) (h.lent ∙ sym k.lent))

pub one_qrbill_make_qrr : OneAnswer contracts.qrbill_make_qrr.ended fn.qrbill_make_qrr.Reads.Learnt
one_qrbill_make_qrr κs a x y v w h k = (h.number ∙ sym k.number, ap (λ d. (tt, (d, tt))) (h.lent ∙ sym k.lent))

pub one_qrbill_make_scor : OneAnswer contracts.qrbill_make_scor.ended fn.qrbill_make_scor.Reads.Learnt
one_qrbill_make_scor κs a x y v w h k = (h.number ∙ sym k.number, ap (λ d. (tt, (d, tt))) (h.lent ∙ sym k.lent))

pub one_qrbill_make_iban : OneAnswer contracts.qrbill_make_iban.ended fn.qrbill_make_iban.Reads.Learnt
one_qrbill_make_iban κs a x y v w h k = (h.number ∙ sym k.number, ap (λ d. (tt, (tt, (tt, (d, tt))))) (h.lent ∙ sym k.lent))

-- the list at exit too
pub one_qrbill_pile : OneAnswer contracts.qrbill_pile.ended fn.qrbill_pile.Reads.Learnt
one_qrbill_pile κs a x y v w h k = (h.number ∙ sym k.number, ap (λ d. (tt, (tt, (tt, (d, tt))))) (h.lent ∙ sym k.lent))

-- the list and the sums at exit too
pub one_qrbill_season : OneAnswer contracts.qrbill_season.ended fn.qrbill_season.Reads.Learnt
one_qrbill_season κs a x y v w h k = (h.number ∙ sym k.number, ap₂ (λ d l. (tt, (tt, (tt, (d, (l, tt)))))) (h.lent ∙ sym k.lent) (h.told ∙ sym k.told))

-- the destination and the list at exit too
pub one_qrbill_swift : OneAnswer contracts.qrbill_swift.ended fn.qrbill_swift.Reads.Learnt
one_qrbill_swift κs a x y v w h k = (h.number ∙ sym k.number, ap₂ (λ d l. (tt, (d, (l, tt)))) (h.lent ∙ sym k.lent) (h.told ∙ sym k.told))

pub one_qrbill_mend : OneAnswer contracts.qrbill_mend.ended fn.qrbill_mend.Reads.Learnt
one_qrbill_mend κs a x y v w h k = (h.number ∙ sym k.number, ap₂ (λ d l. (tt, (d, (l, tt)))) (h.lent ∙ sym k.lent) (h.told ∙ sym k.told))

-- the room at exit too
pub one_qrbill_hand : OneAnswer contracts.qrbill_hand.ended fn.qrbill_hand.Reads.Learnt
one_qrbill_hand κs a x y v w h k = let e = h ∙ sym k in (ap (λ (t : Scan). t.len) e, ap (λ (t : Scan). (t.bytes, (tt, (tt, tt)))) e)
