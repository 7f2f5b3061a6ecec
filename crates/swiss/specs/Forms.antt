-- The forms that lines take. Assumes nothing.
use Rattle.std.specs.Prelude.{◌-◌, Bool, ◌&&◌, ◌||◌, not, eqb, leb, get_or, take, drop, length}
use Rattle.sieve.specs.Bytes.{Bytes, ascii, within, same, every}
use Rattle.sieve.specs.Letters.{digit, capital, digit_or_capital, alphanumeric}
use Rattle.swiss.specs.Limits.{iban_length, qrr_length, scor_fewest, scor_most, switzerland, liechtenstein, creditor_mark, billing_mark, nothing_due, first_qr_iid, last_qr_iid}
use Rattle.sieve.specs.Mod97.{numeral}

-- CH or LI
abbrev pub iban_country : Bytes → Bool
iban_country c = same c (ascii switzerland) || same c (ascii liechtenstein)

-- CH or LI, two digits, five digits (the IID), twelve of 0-9 A-Z
abbrev pub iban : Bytes → Bool
iban s = eqb (length s) iban_length && iban_country (take 2 s) && every digit (take 7 (drop 2 s)) && every digit_or_capital (take 12 (drop 9 s))

-- an IBAN whose IID makes it a QR-IBAN
abbrev pub qr_iban : Bytes → Bool
qr_iban s = within first_qr_iid last_qr_iid (numeral 0 (take 5 (drop 4 s)))

-- two letters A-Z
abbrev pub country : Bytes → Bool
country s = eqb (length s) 2 && every capital s

-- one or more digits, a point, two digits; no leading zero, save one zero below 1.00; not 0.00
abbrev pub amount : Bytes → Bool
amount s =
    let whole = take (length s - 3) s in
    leb 4 (length s) && every digit whole && eqb (get_or s (length s - 3) 0) 46 && every digit (drop (length s - 2) s)
    && (eqb (length whole) 1 || not (eqb (get_or whole 0 0) 48)) && not (same s (ascii nothing_due))

-- two slashes, then two of 0-9 A-Z a-z, then anything allowed
abbrev pub billing : Bytes → Bool
billing s = leb 4 (length s) && same (take 2 s) (ascii billing_mark) && every alphanumeric (take 2 (drop 2 s))

-- 27 digits, not all zero
abbrev pub qrr : Bytes → Bool
qrr s = eqb (length s) qrr_length && every digit s && not (every (λ x. eqb x 48) s)

-- RF, two digits, one to 21 of A-Z a-z 0-9
abbrev pub scor : Bytes → Bool
scor s = within scor_fewest scor_most (length s) && same (take 2 s) (ascii creditor_mark) && every digit (take 2 (drop 2 s)) && every alphanumeric (drop 4 s)
