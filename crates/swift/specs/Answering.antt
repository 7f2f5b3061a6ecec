-- What is answered for a payload and a destination, and what the destination then holds. Assumes nothing.
use Rattle.std.specs.Prelude.{ℕ, List, [], ◌∷◌, ◌≡◌, length, Result, Ok, Err}
use Rattle.std.proofs.Math.Option.{Option, some, none}
use Rattle.sieve.specs.Bytes.{Bytes, over}
use Rattle.sieve.specs.Lines.{cut, lines_of}
use Rattle.sieve.specs.Paper.{paper_fault}
use Rattle.sieve.specs.Rules.{Layout, is_empty}
use Rattle.sieve.specs.Reading.{Done, no_room_refusal}
use Rattle.sieve.specs.Verdict.{Refusal, under, found, findings, first}
use Rattle.swiss.specs.declared.Edition.{Edition}
use Rattle.swiss.specs.Swiss.{swiss_in}
use Rattle.sieve.specs.declared.Fault.{Fault}
use Rattle.swift.specs.declared.Counts.{Counts}
use Rattle.swift.specs.Fields.{contents, counts_of}

-- 16: a bill without amount
abbrev pub no_amount_refusal : List Bytes → Option Refusal
no_amount_refusal ls = found (is_empty 19 ls) (under 16 19)

-- what is found, in this order: what the reader finds, no amount, room
unfoldable pub field_findings : Layout → Bytes → ℕ → List (Option Refusal)
field_findings L p room =
    let ls = lines_of (cut p) in
    first (findings L p)
    ∷ no_amount_refusal ls
    ∷ no_room_refusal room (length (contents ls))
    ∷ []

-- the contents are laid, and the counts told; or nothing is
pub data Mapping : Type 0 where
  mapped : Counts → Mapping
  not_mapped : Refusal → Mapping

abbrev pub mapped_onto : List Bytes → Bytes → Option Refusal → Done Mapping
mapped_onto ls dest none = record { answer = mapped (counts_of ls); lent = over dest (contents ls) }
mapped_onto ls dest (some r) = record { answer = not_mapped r; lent = dest }

unfoldable pub fields_answer : Layout → Bytes → Bytes → Done Mapping
fields_answer L p dest = mapped_onto (lines_of (cut p)) dest (first (field_findings L p (length dest)))

-- what the code answers, in the paper's words
abbrev pub Mapped : Type 0
Mapped = Result Counts Fault

abbrev pub paper_mapped : Mapped → Mapping
paper_mapped (Ok c) = mapped c
paper_mapped (Err f) = not_mapped (paper_fault f)

-- of a payload and a destination, the answer r and the destination afterwards
pub record IsMapped (L : Layout) (p dest : Bytes) (r : Mapped) (after : Bytes) : Type 0 where
  pub answer : paper_mapped r ≡ (fields_answer L p dest).answer
  pub lent : after ≡ (fields_answer L p dest).lent

-- the mapping of a payload that some edition accepts, whichever it is
abbrev pub IsMappedBill : Bytes → Bytes → Mapped → Bytes → Type 0
IsMappedBill p dest r after = (e : Edition) → first (findings (swiss_in e) p) ≡ none → IsMapped (swiss_in e) p dest r after
