-- `swiss_forms::iban_right` meets its contract: the length, the country, and digits that are right. Assumes nothing.
use native.Mathlib.Omega.{arith}
use mathlib.Core.Bool.{true, ◌&&◌, and-false}
use mathlib.Core.Path.{◌≡◌, sym, ◌∙◌}
use lib.ListN.{take, drop}
use borrow.Author.Tests.{eq-eqb}
use Rattle.sieve.specs.Bytes.{every}
use Rattle.sieve.specs.Letters.{digit}
use Rattle.sieve.specs.Mod97.{checks97}
use Rattle.swiss_forms.specs.Digits.{iban_of_digits}
use Rattle.swiss_forms.proofs.Digits.{split, to_end, overlapping}
use Rattle.swiss_forms.proofs.Letters.{Lettered, without_letters, with_letters}
use Rattle.swiss_forms.proofs.iban_right.Goals as goal
use Rattle.swiss_forms.proofs.iban_right.Goals.{Else-letters-eq0, Then-every-2}

-- the country is CH or LI
country : (c : Else-letters-eq0) → Lettered (take 2 c.args.s.now)
country c = with_letters (take 2 c.args.s.now) (rw c.country_letters-letters.ensures at c.if-letters-eq0.false)

-- so the digits decide
decide : (c : Else-letters-eq0) → let s = c.args.s.now in iban_of_digits s ≡ (every digit (drop 2 s) && checks97 s)
decide c = rw (eq-eqb _ 21 c.if-s-ne-IBAN_LENGTH.false, (country c).known)

-- digits alone are behind the country
all : (c : Then-every-2) → every digit (drop 2 c.args.s.now) ≡ true
all c =
    overlapping c.args.s.now (omega arith) ∙ rw (← c.every.ensures, c.if-every.true, ← c.every-then-every.ensures) c.if-every-2.true

pub returns-then-letters-eq0 : goal.returns-then-letters-eq0
returns-then-letters-eq0 c =
    let s = c.args.s.now in
    rw (eq-eqb _ 21 c.if-s-ne-IBAN_LENGTH.false, without_letters (take 2 s) (sym c.country_letters-letters.ensures ∙ c.if-letters-eq0.true))

pub checks97_with-requires : goal.checks97_with-requires
checks97_with-requires c =
    let p = goal.at.checks97_with-requires c in
    let s = c.args.s.now in
    let k = country p.Else-letters-eq0 in
    record {
      in_bounds = omega arith;
      s_value = (k.letters, (split 2 s (all p.Then-every-2)).0);
      letters_value = (c.country_letters-letters.ensures ∙ k.number_of, rw (to_end 4 17 s (omega arith)) at c.decimal.ensures);
    }

pub returns-then-every-2 : goal.returns-then-every-2
returns-then-every-2 c =
    let p = goal.at.returns-then-every-2 c in
    c.checks97_with.ensures ∙ sym (decide p.Else-letters-eq0 ∙ rw (all p.Then-every-2))

pub returns-else-every-2 : goal.returns-else-every-2
returns-else-every-2 c =
    let s = c.args.s.now in
    sym (decide (goal.at.returns-else-every-2 c).Else-letters-eq0 ∙ rw (overlapping s (omega arith), ← c.every-then-every.ensures, c.if-every-2.false, and-false (every digit (take 16 (drop 2 s)))))
