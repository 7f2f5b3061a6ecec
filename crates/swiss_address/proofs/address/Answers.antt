-- `swiss_address::address` meets its contract: what type S's rules take is kept, and what they do not take is of type K, or is not. Assumes nothing.
use mathlib.Core.Path.{sym, ◌∙◌}
use Rattle.std.proofs.Common.{rules}
use Rattle.swiss_address.proofs.Addresses.{as_K, kept_as_S}
use Rattle.swiss_address.proofs.address.Goals as goal

pub returns-in_default : goal.returns-in_default
returns-in_default c = sym (kept_as_S _ _ _ (sym c.structured.ensures ∙ c.in_default.is))

pub returns-then-permits_combined-same : goal.returns-then-permits_combined-same
returns-then-permits_combined-same c = c.combined.ensures ∙ as_K _ _ _ (search rules)
