-- The contract of each public function leaves one answer. Assumes nothing.
use mathlib.Core.Path.{ap}
use Rattle.sieve.specs.OneAnswer.{OneAnswer}
use Rattle.mender.proofs.Promise.{one_mending}
use Rattle.mender.specs.contracts as contracts
use Rattle.mender.proofs as fn

-- the destination at exit too
pub one_mend : OneAnswer contracts.mend.ended fn.mend.Reads.Learnt
one_mend κs a x y v w h k = let (e, l) = one_mending h k in (e, ap (λ d. (tt, (d, tt))) l)
