-- `runs::characters` meets its contract: those counted, and those of the bytes that are left, are all. Assumes nothing.
use native.Mathlib.Omega.{arith}
use Rattle.runs.proofs.Counts.{characters_parted, characters_few}
use Rattle.runs.proofs.characters.Goals as goal

pub loop-part-preserved : goal.loop-part-preserved
loop-part-preserved c =
    let rest = c.loop-part.rest.now in
    let (enough, front, back, size, others) = c.in-Some.ensures.cases in
    let counted = rw front at c.begun.ensures in
    record {
      few = omega (arith, c.begun.ensures, characters_few c.in-Some.part.now);
      all = rw back (omega (arith, counted, characters_parted 255 rest));
    }
