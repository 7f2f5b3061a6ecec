-- `characters::characters_in` meets its contract: each set has its own test. Assumes nothing.
use Rattle.sieve.specs.Iso8859.{iso8859}
use Rattle.characters.proofs.characters_in.Goals as goal

pub returns-then-in_iso : goal.returns-then-in_iso
unfolding iso8859
returns-then-in_iso c =
    rw (c.in-Iso8859.is, ← c.byte.ensures, ← c.in_iso.ensures, c.if-in_iso.true)

pub returns-else-in_iso : goal.returns-else-in_iso
unfolding iso8859
returns-else-in_iso c =
    rw (c.in-Iso8859.is, ← c.byte.ensures, ← c.in_iso.ensures, c.if-in_iso.false)
