-- References and accounts made from their parts: which parts are of the right form, and what is made of them. Assumes nothing.
use Rattle.std.specs.Prelude.{ℕ, ◌+◌, ◌-◌, ◌≤◌, Bool, true, ◌&&◌, not, [], ◌∷◌, ◌++◌, ◌≡◌, eqb, length, take, drop}
use Rattle.sieve.specs.Bytes.{Bytes, ascii, within, every}
use Rattle.sieve.specs.Letters.{digit, digit_or_capital, alphanumeric}
use Rattle.sieve.specs.Mod97.{remainder97, checks97}
use Rattle.sieve.specs.Mod10.{check_digit, checks10}
use Rattle.sieve.specs.Pairs.{as_two, due_pair}
use Rattle.swiss.specs.Limits.{creditor_mark}
use Rattle.swiss.specs.Forms.{iban_country, iban, qrr, scor}

-- a QR reference is made from 26 digits, not all zero, and the digit that they ask for

abbrev pub zeros : Bytes → Bool
zeros s = every (λ x. eqb x 48) s

abbrev pub qrr_part : Bytes → Bool
qrr_part s = eqb (length s) 26 && every digit s && not (zeros s)

abbrev pub made_qrr : Bytes → Bytes
made_qrr s = s ++ (check_digit s ∷ [])

-- a head of two characters and a rest, with the pair that is due between them
abbrev pub with_pair : Bytes → Bytes → Bytes
with_pair head rest = head ++ (due_pair head rest ++ rest)

-- a part laid into a destination at a place
abbrev pub laid_at : ℕ → Bytes → Bytes → Bytes
laid_at at w d = take at d ++ (w ++ drop (at + length w) d)

-- a text with the pair that is due in the place of its pair 00
abbrev pub with_pair_set : Bytes → Bytes
with_pair_set s = take 2 s ++ (as_two (98 - remainder97 s) ++ drop 4 s)

-- a head of two characters, and a rest of two parts that is no longer than that of an IBAN or a creditor reference
pub record Parts (head first second : Bytes) : Type 0 where
  pub two : length head ≡ 2
  pub few : length first + length second ≤ 21

-- and a destination with room for them and a pair
pub record HasRoom (head first second dest : Bytes) : Type 0 where
  pub parts : Parts head first second
  pub room : 4 + length first + length second ≤ length dest

-- a creditor reference is made from 1 to 21 of A-Z a-z 0-9
abbrev pub scor_part : Bytes → Bool
scor_part rest = within 1 21 (length rest) && every alphanumeric rest

abbrev pub made_scor : Bytes → Bytes
made_scor rest = with_pair (ascii creditor_mark) rest

-- an IBAN is made from CH or LI, an IID of five digits, and twelve of 0-9 A-Z

abbrev pub iban_iid : Bytes → Bool
iban_iid i = eqb (length i) 5 && every digit i

abbrev pub iban_account : Bytes → Bool
iban_account a = eqb (length a) 12 && every digit_or_capital a

abbrev pub iban_parts : Bytes → Bytes → Bytes → Bool
iban_parts country iid account = iban_country country && iban_iid iid && iban_account account

abbrev pub made_iban : Bytes → Bytes → Bytes → Bytes
made_iban country iid account = with_pair country (iid ++ account)

-- what passes the rules of the Swiss bill, form and check digits, and has these parts

abbrev pub QrrOf : Bytes → Bytes → Type 0
QrrOf s t = (take 26 t ≡ s) × (qrr t ≡ true) × (checks10 t ≡ true)

abbrev pub ScorOf : Bytes → Bytes → Type 0
ScorOf rest s = (drop 4 s ≡ rest) × (scor s ≡ true) × (checks97 s ≡ true)

abbrev pub IbanOf : Bytes → Bytes → Bytes → Bytes → Type 0
IbanOf country iid account s =
    (take 2 s ≡ country) × (take 5 (drop 4 s) ≡ iid) × (drop 9 s ≡ account) × (iban s ≡ true) × (checks97 s ≡ true)
