-- Accounts and references of digits alone, with their check digits. Assumes nothing.
use Rattle.std.specs.Prelude.{ℕ, Bool, cond, ◌&&◌, eqb, length, take, drop}
use Rattle.sieve.specs.Bytes.{Bytes, ascii, within, same, every}
use Rattle.sieve.specs.Letters.{digit}
use Rattle.sieve.specs.Mod97.{numeral, checks97}
use Rattle.swiss.specs.Forms.{iban_country}
use Rattle.swiss.specs.Limits.{iban_length, scor_fewest, creditor_mark}

-- the number that the letters of an IBAN's country stand for, CH or LI; 0 of any other
abbrev pub country_letters : Bytes → ℕ
country_letters c = cond (iban_country c) (numeral 0 c) 0

-- an IBAN of digits alone, with right check digits
abbrev pub iban_of_digits : Bytes → Bool
iban_of_digits s = eqb (length s) iban_length && iban_country (take 2 s) && every digit (drop 2 s) && checks97 s

-- a creditor reference of at most 18 digits, with right check digits
abbrev pub scor_of_digits : Bytes → Bool
scor_of_digits s = within scor_fewest 22 (length s) && same (take 2 s) (ascii creditor_mark) && every digit (drop 2 s) && checks97 s
