-- `swiss_forms::country_letters` meets its contract: it is CH, or LI, or neither. Assumes nothing.
use mathlib.Core.Path.{sym, ◌∙◌}
use Rattle.sieve.specs.Bytes.{ascii}
use Rattle.sieve.specs.Mod97.{numeral}
use Rattle.sieve.proofs.Bounds.{same_is}
use Rattle.swiss_forms.proofs.country_letters.Goals as goal

pub returns-then-same : goal.returns-then-same
unfolding numeral
returns-then-same c = rw (same_is c.args.c.now (ascii "CH") (sym c.same.ensures ∙ c.if-same.true))

pub returns-then-same-2 : goal.returns-then-same-2
unfolding numeral
returns-then-same-2 c = rw (same_is c.args.c.now (ascii "LI") (sym c.same-2.ensures ∙ c.if-same-2.true))
