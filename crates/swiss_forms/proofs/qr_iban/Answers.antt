-- `swiss_forms::qr_iban` meets its contract: the first two digits of the IID decide. Assumes nothing.
use mathlib.Core.Bool.{true, false}
use mathlib.Core.Path.{◌≡◌, sym, ◌∙◌}
use lib.ListN.{take, drop}
use Rattle.sieve.specs.Bytes.{ascii, same}
use Rattle.swiss_forms.proofs.Iids.{of_iban}
use Rattle.swiss_forms.proofs.qr_iban.Goals as goal

pub returns-then-same : goal.returns-then-same
returns-then-same c =
    let among : same (take 2 (drop 4 c.args.s.now)) (ascii "30") ≡ true = sym c.same.ensures ∙ c.if-same.true in
    rw among at (of_iban c.args.s.now c.requires).1

pub returns : goal.returns
returns c =
    let not-among : same (take 2 (drop 4 c.args.s.now)) (ascii "30") ≡ false = sym c.same.ensures ∙ c.if-same.false in
    c.same-2.ensures ∙ rw not-among at (of_iban c.args.s.now c.requires).1
