-- The mender's whole answer for any payload and any destination, and what the destination then holds. Assumes nothing.
use Rattle.std.specs.Prelude.{ℕ, ◌-◌, List, [], ◌∷◌, ◌≡◌, ltb, length, Result, Ok, Err}
use Rattle.std.proofs.Math.Option.{Option, some, none}
use Rattle.sieve.specs.Bytes.{Bytes, over}
use Rattle.sieve.specs.Paper.{paper_fault}
use Rattle.sieve.specs.Reading.{Done, no_room_refusal}
use Rattle.sieve.specs.Verdict.{Refusal, Verdict, accepted, refused, under, found, findings, first, verdict}
use Rattle.swiss.specs.Swiss.{swiss}
use Rattle.sieve.specs.declared.Fault.{Fault}
use Rattle.mender.specs.declared.Repairs.{Repairs}
use Rattle.mender.specs.Steps.{as_lf, despaced, reworked, how_many}

abbrev pub most_mended : ℕ
most_mended = 4096

-- a payload's bytes as they are written out, and what was counted on the way
pub record Mend : Type 0 where
  pub bytes : Bytes
  pub repairs : Repairs

abbrev pub mend_of : Bytes → Repairs → Mend
mend_of bytes repairs = record { bytes = bytes; repairs = repairs }

abbrev pub no_repairs : Repairs
no_repairs = record { breaks = 0; spaces = 0; lines = 0 }

abbrev pub as_it_came : Bytes → Mend
as_it_came p = mend_of p no_repairs

-- breaks that were not LF: each has one CR; what steps 2 and 3 took, spaces; what step 4 took, a break for each line
abbrev pub repairs_of : Bytes → Repairs
repairs_of p =
    record {
      breaks = how_many 13 p;
      spaces = length (as_lf p) - length (despaced p);
      lines = length (despaced p) - length (reworked p);
    }

abbrev pub mend_by_steps : Bytes → Mend
mend_by_steps p = mend_of (reworked p) (repairs_of p)

-- what the reader accepts comes back unchanged; else the four steps
abbrev pub mend_by : Verdict → Bytes → Mend
mend_by (accepted n k) p = as_it_came p
mend_by (refused r) p = mend_by_steps p

unfoldable pub mend : Bytes → Mend
mend p = mend_by (verdict swiss p) p

-- what is found in mended bytes: what the reader finds, then room
abbrev pub mended_findings : Bytes → ℕ → List (Option Refusal)
mended_findings bytes room = first (findings swiss bytes) ∷ no_room_refusal room (length bytes) ∷ []

-- what is found first: too many bytes to mend
unfoldable pub mend_findings : Bytes → Bytes → ℕ → List (Option Refusal)
mend_findings p bytes room = found (ltb most_mended (length p)) (under 2 0) ∷ mended_findings bytes room

-- what the mender answers: how many bytes it wrote, and what it counted; or a refusal
pub data Mending : Type 0 where
  mended : ℕ → Repairs → Mending
  not_mended : Refusal → Mending

abbrev pub Mended : Type 0
Mended = Result (ℕ × Repairs) Fault

abbrev pub paper_mended : Mended → Mending
paper_mended (Ok (n, c)) = mended n c
paper_mended (Err f) = not_mended (paper_fault f)

-- the mended bytes, in the front of the destination, where nothing is found
abbrev pub mended_onto : Mend → Bytes → Option Refusal → Done Mending
mended_onto m dest none = record { answer = mended (length m.bytes) m.repairs; lent = over dest m.bytes }
mended_onto m dest (some r) = record { answer = not_mended r; lent = dest }

-- of mended bytes and a destination, for which this is found, the answer r and the destination afterwards
pub record IsMendedBy (m : Mend) (dest : Bytes) (o : Option Refusal) (r : Mended) (after : Bytes) : Type 0 where
  pub answer : paper_mended r ≡ (mended_onto m dest o).answer
  pub lent : after ≡ (mended_onto m dest o).lent

-- what is answered where room alone is left to ask for, and where the reader is asked first

abbrev pub EndsByRoom : Mend → Bytes → Mended → Bytes → Type 0
EndsByRoom m dest r after = IsMendedBy m dest (no_room_refusal (length dest) (length m.bytes)) r after

abbrev pub EndsByReader : Mend → Bytes → Mended → Bytes → Type 0
EndsByReader m dest r after = IsMendedBy m dest (first (mended_findings m.bytes (length dest))) r after

unfoldable pub mend_answer : Bytes → Bytes → Done Mending
mend_answer p dest = mended_onto (mend p) dest (first (mend_findings p (mend p).bytes (length dest)))

-- of a payload and a destination, the answer r and the destination afterwards
pub record IsMended (p dest : Bytes) (r : Mended) (after : Bytes) : Type 0 where
  pub answer : paper_mended r ≡ (mend_answer p dest).answer
  pub lent : after ≡ (mend_answer p dest).lent
