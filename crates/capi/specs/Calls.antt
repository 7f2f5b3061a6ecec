-- What the calls for C answer of the account, of a number that is made, of a pile, of a season, of SWIFT fields, and of a payload that is mended. Assumes nothing.
use Rattle.std.specs.Prelude.{ℕ, Bool, Some, None, List, [], ◌∷◌, ◌++◌, ◌≡◌, length}
use Rattle.std.proofs.Math.Option.{Option, some, none}
use Rattle.std.specs.Borrow.{Bor, MutBor}
use denote.Triple.Both.{Both}
use Rattle.sieve.specs.Bytes.{Bytes}
use Rattle.sieve.specs.Lines.{cut, lines_of}
use Rattle.sieve.specs.Reading.{no_room_refusal}
use Rattle.sieve.specs.Rules.{Layout}
use Rattle.sieve.specs.Verdict.{Refusal, first}
use Rattle.sieve.specs.Writing.{handed}
use Rattle.swiss.specs.declared.Edition.TheVariants.{V24}
use Rattle.swiss.specs.Limits.{francs, euros}
use Rattle.lines.specs.declared.Place.{Place}
use Rattle.packing.specs.Packing.{packed_refusal, packed_place, packed_laying}
use Rattle.making.specs.Made.{qrr_part, made_qrr, scor_part, made_scor, iban_parts, made_iban}
use Rattle.making.specs.Making.{make_answer}
use Rattle.packing.specs.Telling.{Reply, IsReply, reply_onto}
use Rattle.pile.specs.Pile.{pile_numbers, pile_findings, filled_by}
use Rattle.mender.specs.declared.Repairs.{Repairs}
use Rattle.mender.specs.Mending.{mend, mend_findings}
use Rattle.season.specs.Season.{differing, sum, season_findings}
use Rattle.swift.specs.declared.Counts.{Counts}
use Rattle.swift.specs.Fields.{contents, counts_of}
use Rattle.swift.specs.Answering.{field_findings}

-- where the account stands; 0 where it is not known
abbrev pub packed_account : Rattle.std.specs.Prelude.Option Place → ℕ
packed_account None = 0
packed_account (Some place) = packed_place place.start place.bytes

-- whether the parts are of their form, what is made of them and a destination: the number r and the destination afterwards
pub record IsPackedMade (formed : Bool) (made dest : Bytes) (r : ℕ) (after : Bytes) : Type 0 where
  pub number : r ≡ packed_laying (make_answer formed made dest).answer
  pub lent : after ≡ (make_answer formed made dest).lent

-- so of what a call is lent, at its entry and at its exit: a QR reference, a creditor reference, an IBAN

abbrev pub IsPackedQrr : (digits : Both (Bor Bytes) (Bor Bytes)) (dest : Both (MutBor Bytes) (MutBor Bytes)) → ℕ → Type 0
IsPackedQrr digits dest r = let s = digits.entry.now in IsPackedMade (qrr_part s) (made_qrr s) dest.entry.now r dest.exit.now

abbrev pub IsPackedScor : (reference : Both (Bor Bytes) (Bor Bytes)) (dest : Both (MutBor Bytes) (MutBor Bytes)) → ℕ → Type 0
IsPackedScor reference dest r = let s = reference.entry.now in IsPackedMade (scor_part s) (made_scor s) dest.entry.now r dest.exit.now

abbrev pub IsPackedIban : (country iid account : Both (Bor Bytes) (Bor Bytes)) (dest : Both (MutBor Bytes) (MutBor Bytes)) → ℕ → Type 0
IsPackedIban country iid account dest r =
    let c = country.entry.now in
    let i = iid.entry.now in
    let a = account.entry.now in
    IsPackedMade (iban_parts c i a) (made_iban c i a) dest.entry.now r dest.exit.now

-- of a pile: 0, or why it is refused
abbrev pub packed_pile : Option Refusal → ℕ
packed_pile none = 0
packed_pile (some r) = packed_refusal r

-- of a buffer, places, a count and a list for entries, the number r and the list afterwards
pub record IsPackedPiled (buffer : Bytes) (places : List ℕ) (count : ℕ) (answers : List ℕ) (r : ℕ) (after : List ℕ) : Type 0 where
  pub number : r ≡ packed_pile (first (pile_findings buffer places count (length answers)))
  pub lent : after ≡ filled_by (pile_numbers V24 buffer places count) answers (first (pile_findings buffer places count (length answers)))

-- so of what a call is lent
abbrev pub IsPackedPiledTo : (buffer places : Both (Bor (List ℕ)) (Bor (List ℕ))) → ℕ → (answers : Both (MutBor (List ℕ)) (MutBor (List ℕ))) → ℕ → Type 0
IsPackedPiledTo buffer places count answers r = IsPackedPiled buffer.entry.now places.entry.now count answers.entry.now r answers.exit.now

-- the sums as numbers, of CHF and of EUR
abbrev pub told_sums : List Bytes → List ℕ
told_sums ps = sum francs ps ∷ sum euros ps ∷ []

-- of a season: what is found of the bills and of room for their positions, and last of all room for the two sums
unfoldable pub season_answer : Bytes → List ℕ → ℕ → List ℕ → List ℕ → Reply
season_answer buffer places count list sums =
    let ps = handed buffer places count in
    reply_onto (differing ps) (told_sums ps) list sums (first (season_findings buffer places count (length list) ++ (no_room_refusal (length sums) 2 ∷ [])))

-- the number r, the list and the sums afterwards
abbrev pub IsPackedTried : Bytes → List ℕ → ℕ → List ℕ → List ℕ → ℕ → List ℕ → List ℕ → Type 0
IsPackedTried buffer places count list sums r after told = IsReply (season_answer buffer places count list sums) r after told

-- so of what a call is lent
abbrev pub IsPackedTriedTo : (buffer places : Both (Bor (List ℕ)) (Bor (List ℕ))) → ℕ → (list sums : Both (MutBor (List ℕ)) (MutBor (List ℕ))) → ℕ → Type 0
IsPackedTriedTo buffer places count list sums r =
    IsPackedTried buffer.entry.now places.entry.now count list.entry.now sums.entry.now r list.exit.now sums.exit.now

-- the counts as numbers: lines of 59a, of 32B and of 70, characters cut, characters replaced
abbrev pub told_counts : Counts → List ℕ
told_counts c = c.beneficiary ∷ c.transaction ∷ c.remittance ∷ c.cut ∷ c.replaced ∷ []

-- of a payload, a destination and a list: what the fields find, and last of all room for the five counts
unfoldable pub swift_answer : Layout → Bytes → Bytes → List ℕ → Reply
swift_answer L p dest list =
    let ls = lines_of (cut p) in
    reply_onto (contents ls) (told_counts (counts_of ls)) dest list (first (field_findings L p (length dest) ++ (no_room_refusal (length list) 5 ∷ [])))

-- the number r, the destination and the list afterwards
abbrev pub IsPackedFields : Layout → Bytes → Bytes → List ℕ → ℕ → Bytes → List ℕ → Type 0
IsPackedFields L p dest list r after counts = IsReply (swift_answer L p dest list) r after counts

-- so of what a call is lent
abbrev pub IsPackedFieldsTo : Layout → (payload : Both (Bor (List ℕ)) (Bor (List ℕ))) (dest list : Both (MutBor (List ℕ)) (MutBor (List ℕ))) → ℕ → Type 0
IsPackedFieldsTo L payload dest list r = IsPackedFields L payload.entry.now dest.entry.now list.entry.now r dest.exit.now list.exit.now

-- what was counted as numbers: breaks that were not LF, spaces taken, lines dropped
abbrev pub told_repairs : Repairs → List ℕ
told_repairs c = c.breaks ∷ c.spaces ∷ c.lines ∷ []

-- of a payload, a destination and a list: what the mender finds, and last of all room for the three counts
unfoldable pub mend_told : Bytes → Bytes → List ℕ → Reply
mend_told p dest list =
    let m = mend p in
    reply_onto m.bytes (told_repairs m.repairs) dest list (first (mend_findings p m.bytes (length dest) ++ (no_room_refusal (length list) 3 ∷ [])))

abbrev pub IsPackedMended : Bytes → Bytes → List ℕ → ℕ → Bytes → List ℕ → Type 0
IsPackedMended p dest list r after counts = IsReply (mend_told p dest list) r after counts

-- so of what a call is lent
abbrev pub IsPackedMendedTo : (payload : Both (Bor (List ℕ)) (Bor (List ℕ))) (dest list : Both (MutBor (List ℕ)) (MutBor (List ℕ))) → ℕ → Type 0
IsPackedMendedTo payload dest list r = IsPackedMended payload.entry.now dest.entry.now list.entry.now r dest.exit.now list.exit.now
