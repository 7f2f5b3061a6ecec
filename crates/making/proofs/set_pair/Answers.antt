-- `making::set_pair` meets its contract: the two digits of 98 less the remainder. Assumes nothing.
use native.Mathlib.Omega.{arith}
use Rattle.sieve.specs.Mod97.{remainder97}
use Rattle.making.proofs.set_pair.Goals as goal

pub overflow_sub-pair : goal.overflow_sub-pair
unfolding remainder97
overflow_sub-pair c = omega (arith, c.remainder97-pair.ensures)
