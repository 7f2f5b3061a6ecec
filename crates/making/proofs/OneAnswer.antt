-- The contract of each public function leaves one answer. Assumes nothing.
use mathlib.Core.Path.{ap}
use Rattle.sieve.specs.OneAnswer.{OneAnswer}
use Rattle.making.proofs.Promise.{one_making}
use Rattle.making.specs.contracts as contracts
use Rattle.making.proofs as fn

-- the destination at exit too

pub one_make_qrr : OneAnswer contracts.make_qrr.ended fn.make_qrr.Reads.Learnt
one_make_qrr κs a x y v w h k = let (e, l) = one_making h k in (e, ap (λ d. (tt, (d, tt))) l)

pub one_make_scor : OneAnswer contracts.make_scor.ended fn.make_scor.Reads.Learnt
one_make_scor κs a x y v w h k = let (e, l) = one_making h k in (e, ap (λ d. (tt, (d, tt))) l)

pub one_make_iban : OneAnswer contracts.make_iban.ended fn.make_iban.Reads.Learnt
one_make_iban κs a x y v w h k = let (e, l) = one_making h k in (e, ap (λ d. (tt, (tt, (tt, (d, tt))))) l)
