-- The number that the letters of a country stand for is 0 exactly where the country is not CH or LI. Assumes nothing.
use native.Mathlib.Omega.{arith}
use mathlib.Core.Bool.{Bool, true, false}
use mathlib.Core.Logic.{◌≢◌}
use mathlib.Core.Path.{◌≡◌, refl}
use Rattle.sieve.specs.Bytes.{Bytes, ascii, same, every}
use Rattle.sieve.specs.Letters.{capital}
use Rattle.sieve.specs.Mod97.{numeral}
use Rattle.sieve.proofs.Bounds.{same_is}
use Rattle.swiss.specs.Forms.{iban_country}
use Rattle.swiss_forms.specs.Digits.{country_letters}

-- CH, LI, or any other country
data Country : Bytes → Type 0 where
  swiss : Country (ascii "CH")
  liechtenstein : Country (ascii "LI")
  other : {c : Bytes} → iban_country c ≡ false → Country c

country_of : (c : Bytes) → Country c
country_of c = by_cases (same c (ascii "CH")) (same c (ascii "LI")) refl refl
  where
    by_cases : (a b : Bool) → same c (ascii "CH") ≡ a → same c (ascii "LI") ≡ b → Country c
    by_cases true b e f = rw (same_is c (ascii "CH") e) swiss
    by_cases false true e f = rw (same_is c (ascii "LI") f) liechtenstein
    by_cases false false e f = other {c = c} (rw (e, f))

pub without_letters : (c : Bytes) → country_letters c ≡ 0 → iban_country c ≡ false
unfolding numeral
without_letters c h = by_cases (country_of c) h
  where
    by_cases : {c : Bytes} → Country c → country_letters c ≡ 0 → iban_country c ≡ false
    by_cases swiss e = absurd (omega arith)
    by_cases liechtenstein e = absurd (omega arith)
    by_cases (other h) e = h

-- the letters of CH or LI, as the check digits ask for them
pub record Lettered (c : Bytes) : Type 0 where
  pub known : iban_country c ≡ true
  pub letters : every capital c ≡ true
  pub number_of : country_letters c ≡ numeral 0 c

pub with_letters : (c : Bytes) → country_letters c ≢ 0 → Lettered c
unfolding numeral
with_letters c h = by_cases (country_of c) h
  where
    by_cases : {c : Bytes} → Country c → country_letters c ≢ 0 → Lettered c
    by_cases swiss e = record { known = refl; letters = refl; number_of = refl }
    by_cases liechtenstein e = record { known = refl; letters = refl; number_of = refl }
    by_cases (other h) e = absurd (e (rw h))
