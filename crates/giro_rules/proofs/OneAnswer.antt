-- The contract of each public function leaves one answer. Assumes nothing.
use mathlib.Core.Path.{refl, sym, ◌∙◌}
use Rattle.sieve.specs.OneAnswer.{OneAnswer}
use Rattle.giro_rules.specs.contracts as contracts
use Rattle.giro_rules.proofs as fn

pub one_header : OneAnswer contracts.header.ended fn.header.Reads.Learnt
one_header κs a x y v w h k = (h ∙ sym k, refl)

pub one_rules : OneAnswer contracts.rules.ended fn.rules.Reads.Learnt
one_rules κs a x y v w h k = (h ∙ sym k, refl)
