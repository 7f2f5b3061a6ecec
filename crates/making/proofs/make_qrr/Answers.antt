-- `making::make_qrr` meets its contract: room is asked for before anything is laid. Assumes nothing.
use native.Mathlib.Omega.{arith}
use mathlib.Core.Bool.{true, not}
use mathlib.Core.List.{[], ◌∷◌, ◌++◌}
use mathlib.Core.Path.{◌≡◌, sym, ap, ◌∙◌}
use lib.Dec.{eqb}
use lib.ListN.{length, length-append}
use borrow.Author.Tests.{eqb-true}
use Rattle.sieve.specs.Bytes.{every, over}
use Rattle.sieve.specs.Letters.{digit}
use Rattle.sieve.specs.Mod10.{check_digit}
use Rattle.making.specs.Made.{zeros, qrr_part, laid_at}
use Rattle.making.proofs.Texts.{all3}
use Rattle.making.proofs.Laid.{laid_first, laid_behind}
use Rattle.making.proofs.Promise.{not_formed, no_room, is_laid}
use Rattle.making.proofs.make_qrr.Goals as goal
use Rattle.making.proofs.make_qrr.Goals.{Then-qrr_part}

-- what the test of the part says: that all are digits, and how many there are
formed : (t : Then-qrr_part) → qrr_part t.args.digits.now ≡ true
formed t = sym t.qrr_part.ensures ∙ t.if-qrr_part.true

parts : (t : Then-qrr_part)
    → let s = t.args.digits.now in (eqb (length s) 26 ≡ true) × (every digit s ≡ true) × (not (zeros s) ≡ true)
parts t =
    let s = t.args.digits.now in
    (all3 (eqb (length s) 26) (every digit s) (not (zeros s))).0 (formed t)

twenty_six : (t : Then-qrr_part) → length t.args.digits.now ≡ 26
twenty_six t = eqb-true (length t.args.digits.now) 26 (parts t).0

pub returns-then-dest-lt27 : goal.returns-then-dest-lt27
returns-then-dest-lt27 c =
    let s = c.args.digits.now in
    no_room (formed (goal.at.returns-then-dest-lt27 c).Then-qrr_part) (omega (arith, c.if-dest-lt27.true, twenty_six (goal.at.returns-then-dest-lt27 c).Then-qrr_part, length-append s (check_digit s ∷ [])))

pub returns-then-qrr_part : goal.returns-then-qrr_part
returns-then-qrr_part c =
    let left = (goal.at.returns-then-qrr_part c).Then-qrr_part in
    let check = c.check_digit_of_digits in
    let a = c.args in
    let s = a.digits.now in
    let n = twenty_six left in
    let size = length-append s (check_digit s ∷ []) in
    let first = c.lay_at.ensures ∙ laid_first a.dest.now s in
    let last = c.lay_at-then-qrr_part.ensures ∙ ap (laid_at 26 (check.result ∷ [])) first ∙ laid_behind a.dest.now s (check.result ∷ []) 26 n in
    is_laid (formed left) (omega (arith, c.if-dest-lt27.false, n, size)) (omega (arith, n, size)) (last ∙ ap (λ x. over a.dest.now (s ++ (x ∷ []))) check.ensures)

pub returns : goal.returns
returns c = not_formed (sym c.qrr_part.ensures ∙ c.if-qrr_part.false)
