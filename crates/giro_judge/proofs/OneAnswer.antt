-- The contract of each public function leaves one answer. Assumes nothing.
use mathlib.Core.Path.{refl, sym, ap, ◌∙◌}
use Rattle.sieve.specs.OneAnswer.{OneAnswer}
use Rattle.sieve.proofs.PaperLosesNothing.{one_answer}
use Rattle.giro_judge.specs.contracts as contracts
use Rattle.giro_judge.proofs as fn

-- the list at exit too
pub one_judge : OneAnswer contracts.judge.ended fn.judge.Reads.Learnt
one_judge κs a x y v w h k = (one_answer x y (h.answer ∙ sym k.answer), ap (λ d. (tt, (d, tt))) (h.places ∙ sym k.places))

pub one_verdict : OneAnswer contracts.verdict.ended fn.verdict.Reads.Learnt
one_verdict κs a x y v w h k = (one_answer x y (h ∙ sym k), refl)
