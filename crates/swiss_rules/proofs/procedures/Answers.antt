-- `swiss_rules::procedures` meets its contract: of fewer than 33 lines nothing is asked. Assumes nothing.
use native.Mathlib.Omega.{arith}
use mathlib.Core.Path.{sym}
use Rattle.swiss_rules.proofs.Groups.{no_procedures}
use Rattle.swiss_rules.proofs.procedures.Goals as goal

pub returns-then-count-lt33 : goal.returns-then-count-lt33
returns-then-count-lt33 c = sym (no_procedures _ (omega (arith, c.if-count-lt33.true, c.requires)))
