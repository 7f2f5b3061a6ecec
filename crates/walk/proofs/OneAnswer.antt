-- The contract of each public function leaves one answer, and one content of a list that is lent. Assumes nothing.
use mathlib.Core.Path.{sym, ap, ◌∙◌}
use Rattle.sieve.specs.OneAnswer.{OneAnswer}
use Rattle.walk.specs.contracts as contracts
use Rattle.walk.proofs as fn

pub one_walk : OneAnswer contracts.walk.ended fn.walk.Reads.Learnt
one_walk κs a x y v w h k = (h.told ∙ sym k.told, ap (λ l. (w.0, (w.1.0, (l, w.1.1.1)))) (h.places ∙ sym k.places))
