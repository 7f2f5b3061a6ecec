-- `swiss_rules::account` meets its contract: an account that is right breaks none of the three rules of a number. Assumes nothing.
use mathlib.Core.List.{[], ◌∷◌}
use mathlib.Core.Path.{refl, sym, ◌∙◌}
use Rattle.sieve.specs.Mod97.{checks97}
use Rattle.swiss.specs.Forms.{iban}
use Rattle.findings.specs.Findings.{from}
use Rattle.swiss_forms.proofs.Digits.{iban_of_digits_lem}
use Rattle.swiss_rules.proofs.Right.{all_right}
use Rattle.swiss_rules.proofs.account.Goals as goal

pub returns-then-iban_right : goal.returns-then-iban_right
returns-then-iban_right c =
    let l = c.args.l.now in
    let (form, check) = iban_of_digits_lem l (sym c.iban_right.ensures ∙ c.if-iban_right.true) in
    all_right 4 iban checks97 (from 4 (l ∷ [])) refl form check
