-- `making::make_scor` meets its contract: a part of its form is short enough, and another makes nothing. Assumes nothing.
use mathlib.Core.Path.{sym, ◌∙◌}
use Rattle.making.proofs.Promise.{not_formed}
use Rattle.making.proofs.make_scor.Goals as goal

pub returns : goal.returns
returns c = not_formed (sym c.scor_part.ensures ∙ c.if-scor_part.false)
