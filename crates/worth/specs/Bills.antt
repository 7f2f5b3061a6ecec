-- What the check digits are worth in a payload: the verdict on one that is accepted, after one slip in its account or its QR reference. Assumes nothing.
use Rattle.std.specs.Prelude.{ℕ, ◌+◌, ◌-◌, ◌≤◌, ◌<◌, Bool, true, cond, ◌≢◌, ◌≡◌, length, get_or, take}
use Rattle.sieve.specs.declared.Break.{Break}
use Rattle.sieve.specs.Bytes.{Bytes}
use Rattle.sieve.specs.Letters.{digit}
use Rattle.sieve.specs.Lines.{bill_of}
use Rattle.sieve.specs.Latin.{in_one}
use Rattle.sieve.specs.Rules.{line, is}
use Rattle.sieve.specs.Verdict.{under, Verdict, accepted, refused, verdict}
use Rattle.sieve.specs.Pointing.{before_breaks}
use Rattle.swiss.specs.Limits.{qr_reference}
use Rattle.swiss.specs.Forms.{iban}
use Rattle.swiss.specs.Swiss.{swiss}
use Rattle.worth.specs.Slips.{changed, swapped, same_kind, unseen_in_qrr, unseen_in_iban}

-- line n of a payload
abbrev pub line_in : ℕ → Bytes → Bytes
line_in n p = line n (bill_of p).lines

-- where it starts: behind the lines before it, each with its break
abbrev pub start_in : ℕ → Bytes → ℕ
start_in n p = length (before_breaks (bill_of p).break (take (n - 1) (bill_of p).lines))

-- a payload is accepted, with n lines and break k
abbrev pub Accepted : Bytes → ℕ → Break → Type 0
Accepted p n k = verdict swiss p ≡ accepted n k

-- line 28 says that line 29 is a QR reference
abbrev pub UnderQrr : Bytes → Type 0
UnderQrr p = is 28 qr_reference (bill_of p).lines ≡ true

-- refused at line n: by rule 11 for its check digits where it has its form, else by rule 10
abbrev pub refused_at : ℕ → Bool → Verdict
refused_at n form = refused (under (cond form 11 10) n)

-- with one of the 27 digits of its QR reference changed to another digit a payload is refused by rule 11, and to any other character of one byte by rule 10
abbrev pub QrrChangedIn : Type 0
QrrChangedIn =
    (p : Bytes) (n : ℕ) (k : Break) (i y : ℕ) → Accepted p n k → UnderQrr p → i < 27 → in_one y ≡ true → get_or (line_in 29 p) i 0 ≢ y
    → verdict swiss (changed (start_in 29 p + i) y p) ≡ refused_at 29 (digit y)

-- with two unlike neighbours of them swapped it is refused by rule 11, save exactly where the carry before them plus each digit gives 4 and 7: then it is accepted as before
abbrev pub QrrSwappedIn : Type 0
QrrSwappedIn =
    (p : Bytes) (n : ℕ) (k : Break) (i : ℕ) → Accepted p n k → UnderQrr p → i + 1 < 27 → get_or (line_in 29 p) i 0 ≢ get_or (line_in 29 p) (i + 1) 0
    → verdict swiss (swapped (start_in 29 p + i) p) ≡ cond (unseen_in_qrr i (line_in 29 p)) (accepted n k) (refused_at 29 true)

-- with one of characters 5 to 21 of its IBAN changed, a digit to another digit or a letter to another letter, it is refused by rule 11, or by rule 10 where the IBAN loses its form (to a small letter)
abbrev pub IbanChangedIn : Type 0
IbanChangedIn =
    (p : Bytes) (n : ℕ) (k : Break) (i y : ℕ) → Accepted p n k → 4 ≤ i → i < 21 → same_kind (get_or (line_in 4 p) i 0) y ≡ true → get_or (line_in 4 p) i 0 ≢ y
    → verdict swiss (changed (start_in 4 p + i) y p) ≡ refused_at 4 (iban (changed i y (line_in 4 p)))

-- with two unlike neighbours of them swapped it is refused so too (by rule 10 where a letter comes into the IID), save exactly where both stand past the IID and are 1 and B, 2 and M, or 3 and X: then it is accepted as before
abbrev pub IbanSwappedIn : Type 0
IbanSwappedIn =
    (p : Bytes) (n : ℕ) (k : Break) (i : ℕ) → Accepted p n k → 4 ≤ i → i + 1 < 21 → get_or (line_in 4 p) i 0 ≢ get_or (line_in 4 p) (i + 1) 0
    → verdict swiss (swapped (start_in 4 p + i) p) ≡ cond (unseen_in_iban i (line_in 4 p)) (accepted n k) (refused_at 4 (iban (swapped i (line_in 4 p))))
