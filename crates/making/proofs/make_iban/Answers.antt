-- `making::make_iban` meets its contract: parts of their form are few enough, and others make nothing. Assumes nothing.
use native.Mathlib.Omega.{arith}
use mathlib.Core.Path.{sym, ◌∙◌}
use Rattle.sieve.specs.Letters.{digit, digit_or_capital}
use Rattle.swiss.specs.Forms.{iban_country}
use Rattle.making.specs.Made.{iban_iid, iban_account}
use Rattle.making.proofs.Texts.{all3, is_just}
use Rattle.making.proofs.OneIban.{two_letters}
use Rattle.making.proofs.Promise.{not_formed}
use Rattle.making.proofs.make_iban.Goals as goal

pub make_with_pair-requires : goal.make_with_pair-requires
make_with_pair-requires c =
    let a = c.args in
    let (country, iid, account) = (all3 (iban_country a.country.now) (iban_iid a.iid.now) (iban_account a.account.now)).0 (sym c.iban_parts.ensures ∙ c.if-iban_parts.true) in
    record { two = two_letters a.country.now country; few = omega (arith, ((is_just 5 digit a.iid.now).0 iid).0, ((is_just 12 digit_or_capital a.account.now).0 account).0) }

pub returns : goal.returns
returns c = not_formed (sym c.iban_parts.ensures ∙ c.if-iban_parts.false)
