-- `swiss_rules::reference` meets its contract: under SCOR and QRR the rules are those of line 29. Assumes nothing.
use mathlib.Core.Path.{sym, ◌∙◌}
use Rattle.swiss_rules.proofs.References.{creditor, qr}
use Rattle.swiss_rules.proofs.reference.Goals as goal

pub returns-then-same : goal.returns-then-same
returns-then-same c = c.creditor_reference.ensures ∙ creditor _ _ (sym c.same.ensures ∙ c.if-same.true)

pub returns-then-same-2 : goal.returns-then-same-2
returns-then-same-2 c = c.qr_reference.ensures ∙ qr _ _ (sym c.same-2.ensures ∙ c.if-same-2.true)
