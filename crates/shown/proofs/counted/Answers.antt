-- `shown::counted` meets its contract: a plain line has a character for each byte. Assumes nothing.
use native.Mathlib.Omega.{arith}
use Rattle.runs.proofs.Counts.{characters_few}
use Rattle.shown.proofs.counted.Goals as goal

pub overflow_cast-result-else-plain : goal.overflow_cast-result-else-plain
overflow_cast-result-else-plain c = omega (arith, c.characters.ensures, characters_few c.args.line.now, c.requires.few)
