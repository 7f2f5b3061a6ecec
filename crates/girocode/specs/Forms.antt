-- The forms that lines take. Assumes nothing.
use Rattle.std.specs.Prelude.{ℕ, ◌-◌, Bool, ◌&&◌, ◌||◌, not, eqb, get_or, take, drop, length}
use Rattle.sieve.specs.Bytes.{Bytes, ascii, within, same, every}
use Rattle.sieve.specs.Latin.{in_one}
use Rattle.sieve.specs.Letters.{digit, capital, digit_or_capital}
use Rattle.girocode.specs.Limits.{euro, iban_fewest, iban_most}

-- a coding that is not read, 3 to 8
abbrev pub unread_coding : Bytes → Bool
unread_coding s = eqb (length s) 1 && every (within 51 56) s

-- 8 or 11 of A-Z 0-9
abbrev pub bic : Bytes → Bool
bic s = (eqb (length s) 8 || eqb (length s) 11) && every digit_or_capital s

-- two capitals, two digits, 1 to 30 of 0-9 A-Z
abbrev pub iban : Bytes → Bool
iban s = within iban_fewest iban_most (length s) && every capital (take 2 s) && every digit (take 2 (drop 2 s)) && every digit_or_capital (drop 4 s)

-- one to nine digits; no leading zero, save one zero below 1
abbrev pub whole : Bytes → Bool
whole s = within 1 9 (length s) && every digit s && (eqb (length s) 1 || not (eqb (get_or s 0 0) 48))

-- a point and digits, the last not 0
abbrev pub fraction : Bytes → Bool
fraction s = eqb (get_or s 0 0) 46 && every digit (drop 1 s) && not (eqb (get_or s (length s - 1) 0) 48)

-- a whole number, and a fraction that is the last n bytes
abbrev pub with_fraction : ℕ → Bytes → Bool
with_fraction n s = whole (take (length s - n) s) && fraction (drop (length s - n) s)

-- EUR and the shortest form that has a digit before any point, 0.01 to 999999999.99: no fraction, or one of one digit or two; not 0
abbrev pub amount : Bytes → Bool
amount s =
    let v = drop 3 s in
    same (take 3 s) (ascii euro) && (whole v || with_fraction 2 v || with_fraction 3 v) && not (same v (ascii "0"))

-- bytes 20 to 7E only
abbrev pub basic : Bytes → Bool
basic s = every in_one s
