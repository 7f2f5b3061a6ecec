-- The contract of each public function leaves one answer. Assumes nothing.
use mathlib.Core.Path.{sym, ap, ◌∙◌}
use Rattle.sieve.specs.OneAnswer.{OneAnswer}
use Rattle.report.specs.contracts as contracts
use Rattle.report.proofs as fn

-- the destination at exit too
pub one_report : OneAnswer contracts.report.ended fn.report.Reads.Learnt
one_report κs a x y v w h k = (h.0 ∙ sym k.0, ap (λ d. (tt, (d, tt))) (h.1.0 ∙ sym k.1.0))

pub one_report_girocode : OneAnswer contracts.report_girocode.ended fn.report_girocode.Reads.Learnt
one_report_girocode κs a x y v w h k = (h.0 ∙ sym k.0, ap (λ d. (tt, (d, tt))) (h.1.0 ∙ sym k.1.0))
