-- Slips that no check digit shows. Assumes nothing.
use Prim.Native.Nat.{◌+◌}
use Prim.Native.String.{String}
use mathlib.Core.Bool.{true, ◌&&◌}
use mathlib.Core.List.{List, [], ◌∷◌, flatten}
use mathlib.Core.Path.{◌≡◌, refl}
use lib.Dec.{T}
use Rattle.sieve.specs.declared.Break.TheVariants.{Lf, CrLf}
use Rattle.sieve.specs.Bytes.{Bytes, ascii, first_such}
use Rattle.sieve.specs.Lines.{joined, cut, bill_of}
use Rattle.sieve.specs.Characters.{break_width, passes, walk, bad_place, characters, line_feeds}
use Rattle.sieve.specs.Verdict.{under, accepted, refused, findings, first, verdict}
use Rattle.sieve.specs.Latin.{latin}
use Rattle.sieve.specs.Cases.{put, Case, case, right}
use Rattle.swiss.specs.Base.{B}
use Rattle.swiss.specs.Swiss.{rules, swiss}
use Rattle.sieve.specs.Mod97.{numeral, remainder97}
use Rattle.sieve.specs.Mod10.{carry, check_digit}
use Rattle.worth.specs.Slips.{changed, swapped}
use Rattle.worth.specs.Worth.{passes_qrr, passes_iban}
use Rattle.worth.specs.Bills.{start_in}

-- invoices 47 and 74 under one check digit: no carry stands before 4 and 7
invoice_example : (passes_qrr (ascii "000000000000000000000000478") && passes_qrr (ascii "000000000000000000000000748")) ≡ true
unfolding carry check_digit
invoice_example = refl

-- the last of 26 digits swapped with the check digit
qrr_example : (passes_qrr (ascii "210000000003139471430000129") && passes_qrr (swapped 25 (ascii "210000000003139471430000129"))) ≡ true
unfolding carry check_digit
qrr_example = refl

-- 1 and B
iban_example : (passes_iban (ascii "CH24007621B2M3X000000") && passes_iban (swapped 9 (ascii "CH24007621B2M3X000000"))) ≡ true
unfolding numeral remainder97
iban_example = refl

-- and a digit changed to a letter: Z for 3 at the thirteenth character
kinds_example : (passes_iban (ascii "CH2700762092356584575") && passes_iban (changed 12 90 (ascii "CH2700762092356584575"))) ≡ true
unfolding numeral remainder97
kinds_example = refl

-- the slips themselves
changed_example : changed 1 88 (ascii "ABCD") ≡ ascii "AXCD"
changed_example = refl

swapped_example : swapped 1 (ascii "ABCD") ≡ ascii "ACBD"
swapped_example = refl

-- the lines of a bill with a QR reference, and of one with an account

abbrev with_reference : String → List Bytes
with_reference t = put 4 "CH6431961000004421557" (put 28 "QRR" (put 29 t B))

abbrev with_account : String → List Bytes
with_account t = put 4 t B

-- the slip in a payload: invoice 74 for 47
payload-example :
    let p = joined CrLf (with_reference "000000000000000000000000478") in
    swapped (start_in 29 p + 24) p ≡ joined CrLf (with_reference "000000000000000000000000748")
unfolding bill_of cut break_width
payload-example = refl

-- bills before a swap and after it: which pass, and which are refused
in_bills : List Case
in_bills =
    case CrLf (with_reference "000000000000000000000000478") (accepted 31 CrLf)
    ∷ case CrLf (with_reference "000000000000000000000000748") (accepted 31 CrLf)
    ∷ case Lf (with_reference "210000000003139471430000129") (accepted 31 Lf)
    ∷ case Lf (with_reference "210000000003139471430000192") (accepted 31 Lf)
    ∷ case Lf (with_reference "120000000003139471430000129") (refused (under 11 29))
    ∷ case Lf (with_account "CH24007621B2M3X000000") (accepted 31 Lf)
    ∷ case Lf (with_account "CH2400762B12M3X000000") (accepted 31 Lf)
    -- the last digit of the IID and a letter: the form is lost
    ∷ case Lf (with_account "CH0600762A12345678901") (accepted 31 Lf)
    ∷ case Lf (with_account "CH060076A212345678901") (refused (under 10 4))
    ∷ []

the_bills : T (right swiss in_bills)
unfolding in_bills right verdict swiss rules latin bill_of cut break_width passes walk bad_place characters line_feeds first_such findings first numeral remainder97 carry check_digit flatten
the_bills = tt
