-- The contract of each public function leaves one answer. Assumes nothing.
use mathlib.Core.Path.{ap}
use Rattle.sieve.specs.OneAnswer.{OneAnswer}
use Rattle.giro_reader.proofs.Promise.{promises}
use Rattle.giro_reader.specs.contracts as contracts
use Rattle.giro_reader.proofs as fn

-- the list at exit too
pub one_read : OneAnswer contracts.read.ended fn.read.Reads.Learnt
one_read κs a x y v w h k = let (e, l) = promises.one_reading h k in (e, ap (λ d. (tt, (d, tt))) l)
