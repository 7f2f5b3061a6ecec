-- `swiss_address::address_if_any` meets its contract: it is absent, or it is there. Assumes nothing.
use mathlib.Core.Path.{◌∙◌}
use Rattle.std.proofs.Common.{rules}
use Rattle.swiss_address.proofs.Addresses.{gone, present}
use Rattle.swiss_address.proofs.address_if_any.Goals as goal

pub returns-then-kind-eq0 : goal.returns-then-kind-eq0
returns-then-kind-eq0 c = c.vacant.ensures ∙ gone _ _ _ (search rules)

pub returns : goal.returns
returns c = c.address.ensures ∙ present _ _ _ (search rules)
