-- `mod97::remainder97_by` meets its contract: the text from its fifth character on is read, and after it the first four. Assumes nothing.
use mathlib.Core.Path.{◌∙◌}
use Rattle.mod97.proofs.Moved.{unmoved, moved}
use Rattle.mod97.proofs.remainder97_by.Goals as goal

pub returns-then-s-lt4 : goal.returns-then-s-lt4
returns-then-s-lt4 c = c.run.ensures ∙ unmoved c.args.s.now c.if-s-lt4.true

pub returns : goal.returns
returns c = c.run_by_two.ensures ∙ moved c.args.s.now _ c.run-r.ensures
