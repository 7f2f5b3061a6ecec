-- `mod97::pair_number` meets its contract: the third and the fourth character, read one after the other. Assumes nothing.
use mathlib.Core.Path.{◌∙◌}
use Rattle.mod97.proofs.FirstFour.{has_four, pair_read}
use Rattle.mod97.proofs.pair_number.Goals as goal

pub returns : goal.returns
returns c =
    c.extended.ensures ∙ rw c.value.ensures (pair_read (has_four c.args.s.now c.requires))
