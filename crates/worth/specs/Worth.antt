-- What the check digits of a QR reference and of an IBAN are worth: which slips they show. Assumes nothing.
use Rattle.std.specs.Prelude.{ℕ, ◌+◌, ◌≤◌, ◌<◌, Bool, true, false, ◌&&◌, ◌≢◌, ◌≡◌, get_or}
use Rattle.sieve.specs.Bytes.{Bytes}
use Rattle.sieve.specs.Mod97.{checks97}
use Rattle.sieve.specs.Mod10.{checks10}
use Rattle.swiss.specs.Forms.{iban, qrr}
use Rattle.worth.specs.Slips.{changed, swapped, same_kind, unseen_in_qrr, unseen_in_iban}

-- a text passes if it is of the form that rule 10 asks for, and its check digits are those that rule 11 asks for

abbrev pub passes_qrr : Bytes → Bool
passes_qrr s = qrr s && checks10 s

abbrev pub passes_iban : Bytes → Bool
passes_iban s = iban s && checks97 s

-- a QR reference that passes does not with any one of its 27 digits changed, to whatever byte
abbrev pub QrrChanged : Type 0
QrrChanged = (s : Bytes) (i y : ℕ) → passes_qrr s ≡ true → i < 27 → get_or s i 0 ≢ y → passes_qrr (changed i y s) ≡ false

-- with two unlike neighbours swapped it passes exactly where the carry before them plus each digit gives 4 and 7
abbrev pub QrrSwapped : Type 0
QrrSwapped = (s : Bytes) (i : ℕ) → passes_qrr s ≡ true → i + 1 < 27 → get_or s i 0 ≢ get_or s (i + 1) 0 → passes_qrr (swapped i s) ≡ unseen_in_qrr i s

-- an IBAN that passes does not with one of characters 5 to 21 changed, a digit to another digit or a letter to another letter
abbrev pub IbanChanged : Type 0
IbanChanged =
    (s : Bytes) (i y : ℕ) → passes_iban s ≡ true → 4 ≤ i → i < 21 → same_kind (get_or s i 0) y ≡ true → get_or s i 0 ≢ y
    → passes_iban (changed i y s) ≡ false

-- with two unlike neighbours of them swapped it passes exactly where both stand past the IID and are 1 and B, 2 and M, or 3 and X
abbrev pub IbanSwapped : Type 0
IbanSwapped =
    (s : Bytes) (i : ℕ) → passes_iban s ≡ true → 4 ≤ i → i + 1 < 21 → get_or s i 0 ≢ get_or s (i + 1) 0
    → passes_iban (swapped i s) ≡ unseen_in_iban i s
