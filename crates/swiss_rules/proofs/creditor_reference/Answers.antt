-- `swiss_rules::creditor_reference` meets its contract: a reference that is right breaks none of the three rules of a number. Assumes nothing.
use mathlib.Core.List.{[], ◌∷◌}
use mathlib.Core.Path.{refl, sym, ◌∙◌}
use Rattle.sieve.specs.Mod97.{checks97}
use Rattle.swiss.specs.Forms.{scor}
use Rattle.findings.specs.Findings.{from}
use Rattle.swiss_forms.proofs.Digits.{scor_of_digits_lem}
use Rattle.swiss_rules.proofs.Right.{all_right}
use Rattle.swiss_rules.proofs.creditor_reference.Goals as goal

pub returns-then-scor_right : goal.returns-then-scor_right
returns-then-scor_right c =
    let l = c.args.l.now in
    let (form, check) = scor_of_digits_lem l (sym c.scor_right.ensures ∙ c.if-scor_right.true) in
    all_right 29 scor checks97 (from 29 (l ∷ [])) refl form check
