-- The contract of each public function leaves one answer. Assumes nothing.
use mathlib.Core.Path.{sym, ap, ◌∙◌, refl}
use Rattle.sieve.specs.OneAnswer.{OneAnswer}
use Rattle.scanner.specs.declared.Scan.{Scan}
use Rattle.scanner.proofs.Promise.{one_closing}
use Rattle.scanner.specs.contracts as contracts
use Rattle.scanner.proofs as fn

-- beginning anew gives the same as a fresh start
pub one_begin : OneAnswer contracts.Scan.begin.ended fn.Scan.begin.Reads.Learnt
one_begin κs a x y v w h k = (h ∙ sym k, refl)

pub one_hand : OneAnswer contracts.Scan.hand.ended fn.Scan.hand.Reads.Learnt
one_hand κs a x y v w h k = (h ∙ sym k, refl)

-- the list at exit too
pub one_close : OneAnswer contracts.Scan.close.ended fn.Scan.close.Reads.Learnt
one_close κs a x y v w h k = let (e, l) = one_closing _ _ _ x y _ _ h k in (e, ap (λ d. (tt, (tt, (d, tt)))) l)

-- the room at exit too
pub one_hand_over : OneAnswer contracts.hand_over.ended fn.hand_over.Reads.Learnt
one_hand_over κs a x y v w h k = let e = h ∙ sym k in (ap (λ (t : Scan). t.len) e, ap (λ (t : Scan). (t.bytes, (tt, (tt, tt)))) e)
