-- The contract of each public function leaves one answer. Assumes nothing.
use mathlib.Core.Path.{ap}
use Rattle.sieve.specs.OneAnswer.{OneAnswer}
use Rattle.giro_writer.proofs.Promise.{promises}
use Rattle.giro_writer.specs.contracts as contracts
use Rattle.giro_writer.proofs as fn

-- the destination at exit too
pub one_write : OneAnswer contracts.write.ended fn.write.Reads.Learnt
one_write κs a x y v w h k = let (e, l) = promises.one_writing h k in (e, ap (λ d. (tt, (tt, (tt, (tt, (d, tt)))))) l)
