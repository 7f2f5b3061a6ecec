-- The contract of the public function leaves one answer. Assumes nothing.
use mathlib.Core.Path.{sym, ap, ◌∙◌}
use Rattle.sieve.specs.OneAnswer.{OneAnswer}
use Rattle.sieve.proofs.PaperLosesNothing.{one_answer}
use Rattle.whole.specs.contracts as contracts
use Rattle.whole.proofs as fn

-- the list at exit too
pub one_whole : OneAnswer contracts.whole.ended fn.whole.Reads.Learnt
one_whole κs a x y v w h k = (one_answer x y (h.answer ∙ sym k.answer), ap (λ d. (tt, (tt, (tt, (d, tt))))) (h.places ∙ sym k.places))
