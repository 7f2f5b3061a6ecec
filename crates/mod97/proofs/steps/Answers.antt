-- `mod97::steps` meets its contract: antt computes the rule at all 970 entries, here and nowhere else. Assumes nothing.
use mathlib.Core.Path.{refl}
use Rattle.mod97.specs.Steps.{remainders}
use Rattle.mod97.proofs.steps.Goals as goal

pub returns : goal.returns
unfolding remainders
returns c = refl
