-- The contract of each public function leaves one answer. Assumes nothing.
use mathlib.Core.Path.{refl, sym, ap, ◌∙◌}
use Rattle.sieve.specs.OneAnswer.{OneAnswer}
use Rattle.sieve.proofs.PaperLosesNothing.{one_answer}
use Rattle.swiss_judge.specs.contracts as contracts
use Rattle.swiss_judge.proofs as fn

-- the list at exit too
pub one_judge_in : OneAnswer contracts.judge_in.ended fn.judge_in.Reads.Learnt
one_judge_in κs a x y v w h k = (one_answer x y (h.answer ∙ sym k.answer), ap (λ d. (tt, (d, (tt, tt)))) (h.places ∙ sym k.places))

pub one_verdict_in : OneAnswer contracts.verdict_in.ended fn.verdict_in.Reads.Learnt
one_verdict_in κs a x y v w h k = (one_answer x y (h ∙ sym k), refl)

pub one_judge : OneAnswer contracts.judge.ended fn.judge.Reads.Learnt
one_judge κs a x y v w h k = (one_answer x y (h.answer ∙ sym k.answer), ap (λ d. (tt, (d, tt))) (h.places ∙ sym k.places))

pub one_verdict : OneAnswer contracts.verdict.ended fn.verdict.Reads.Learnt
one_verdict κs a x y v w h k = (one_answer x y (h ∙ sym k), refl)
