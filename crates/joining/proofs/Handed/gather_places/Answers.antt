-- `joining::Handed::gather_places` meets its contract: the count and the places are asked about in their order. Assumes nothing.
use Rattle.joining.specs.Handing.{lying}
use Rattle.joining.proofs.Handed.gather_places.Goals as goal

pub returns-in-Some : goal.returns-in-Some
unfolding lying
returns-in-Some c = rw (c.if-limits-self.true, ← c.first_outside.ensures, c.in-Some.is)

pub returns-in-None : goal.returns-in-None
unfolding lying
returns-in-None c = rw (c.if-limits-self.true, ← c.first_outside.ensures, c.in-None.is)

pub returns-else-limits-self : goal.returns-else-limits-self
unfolding lying
returns-else-limits-self c = rw c.if-limits-self.false
