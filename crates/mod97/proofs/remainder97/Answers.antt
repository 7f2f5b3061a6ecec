-- `mod97::remainder97` meets its contract: the text from its fifth character on is read, and after it the first four. Assumes nothing.
use mathlib.Core.Path.{◌∙◌}
use Rattle.mod97.proofs.Moved.{unmoved, moved}
use Rattle.mod97.proofs.remainder97.Goals as goal

pub returns-then-s-lt4 : goal.returns-then-s-lt4
returns-then-s-lt4 c = c.remainder_after.ensures ∙ unmoved c.args.s.now c.if-s-lt4.true

pub returns : goal.returns
returns c =
    c.remainder_after-2.ensures ∙ moved c.args.s.now _ c.remainder_after-r.ensures
