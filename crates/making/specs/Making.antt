-- What is answered where a number is made, and what the destination then holds. Assumes nothing.
use Rattle.std.specs.Prelude.{Bool, true, not, [], ◌∷◌, ◌++◌, ◌≡◌, length}
use Rattle.std.specs.Borrow.{Bor, MutBor}
use denote.Triple.Both.{Both}
use Rattle.sieve.specs.Paper.{Written, Laying, paper_written}
use Rattle.sieve.specs.Bytes.{Bytes, over}
use Rattle.sieve.specs.Reading.{Done, no_room_refusal}
use Rattle.sieve.specs.Verdict.{under, found, first}
use Rattle.sieve.specs.Writing.{laid_onto}
use Rattle.making.specs.Made.{qrr_part, made_qrr, with_pair, scor_part, made_scor, iban_parts, made_iban}

-- 10 where a part is not of its form, then 15 where there is no room, both at line 0; else the number is laid in the front
unfoldable pub make_answer : Bool → Bytes → Bytes → Done Laying
make_answer formed made dest = laid_onto made dest (first (found (not formed) (under 10 0) ∷ no_room_refusal (length dest) (length made) ∷ []))

-- whether the parts are of their form, what is made of them and a destination: the answer r and the destination afterwards
pub record IsMade (formed : Bool) (made dest : Bytes) (r : Written) (after : Bytes) : Type 0 where
  pub answer : paper_written r ≡ (make_answer formed made dest).answer
  pub lent : after ≡ (make_answer formed made dest).lent

-- of what a call is lent, at its entry and at its exit, and its answer r

-- a QR reference
abbrev pub IsQrrMade : (digits : Both (Bor Bytes) (Bor Bytes)) (dest : Both (MutBor Bytes) (MutBor Bytes)) → Written → Type 0
IsQrrMade digits dest r = let s = digits.entry.now in IsMade (qrr_part s) (made_qrr s) dest.entry.now r dest.exit.now

-- a creditor reference
abbrev pub IsScorMade : (reference : Both (Bor Bytes) (Bor Bytes)) (dest : Both (MutBor Bytes) (MutBor Bytes)) → Written → Type 0
IsScorMade reference dest r = let s = reference.entry.now in IsMade (scor_part s) (made_scor s) dest.entry.now r dest.exit.now

-- an IBAN
abbrev pub IsIbanMade : (country iid account : Both (Bor Bytes) (Bor Bytes)) (dest : Both (MutBor Bytes) (MutBor Bytes)) → Written → Type 0
IsIbanMade country iid account dest r =
    let c = country.entry.now in
    let i = iid.entry.now in
    let a = account.entry.now in
    IsMade (iban_parts c i a) (made_iban c i a) dest.entry.now r dest.exit.now

-- a head, the pair that is due and a rest of two parts: they were laid in the front of the destination
abbrev pub IsPairLaid : (head first second : Both (Bor Bytes) (Bor Bytes)) (dest : Both (MutBor Bytes) (MutBor Bytes)) → Type 0
IsPairLaid head first second dest =
    dest.exit.now ≡ over dest.entry.now (with_pair head.entry.now (first.entry.now ++ second.entry.now))

-- a number made of such parts, of the right form: it is refused where there is no room
abbrev pub IsPairMade : (head first second : Both (Bor Bytes) (Bor Bytes)) (dest : Both (MutBor Bytes) (MutBor Bytes)) → Written → Type 0
IsPairMade head first second dest r =
    IsMade true (with_pair head.entry.now (first.entry.now ++ second.entry.now)) dest.entry.now r dest.exit.now
