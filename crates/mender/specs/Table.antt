-- Cases of the mender, as one table under one claim. Assumes nothing.
use Rattle.std.specs.Prelude.{ℕ, Bool, true, false, ◌&&◌, T, eqb, drop}
use mathlib.Core.List.{List, [], ◌∷◌, ◌++◌, flatten}
use Rattle.std.proofs.Math.Option.{Option, some, none}
use Rattle.sieve.specs.declared.Break.TheVariants.{Lf, CrLf}
use Rattle.sieve.specs.Bytes.{Bytes, first_such, ascii, same}
use Rattle.sieve.specs.Cases.{lines, put, put_bytes, same_verdict}
use Rattle.sieve.specs.Characters.{break_width, passes, walk, bad_place, characters, line_feeds}
use Rattle.sieve.specs.Latin.{latin}
use Rattle.sieve.specs.Lines.{cut, bill_of, joined}
use Rattle.sieve.specs.Mod97.{numeral, remainder97}
use Rattle.sieve.specs.Mod10.{carry, check_digit}
use Rattle.sieve.specs.Verdict.{Refusal, refused, under, under_at, findings, first, verdict}
use Rattle.swiss.specs.Base.{B}
use Rattle.swiss.specs.Swiss.{rules, swiss}
use Rattle.mender.specs.Steps.{as_lf, padding, unpadded, unspaced, shortened, how_many}
use Rattle.mender.specs.Mending.{Mend, mend, mend_findings}

-- what comes of a payload, given room enough: bytes with breaks, spaces and lines counted; or a refusal
pub data Expected : Type 0 where
  mends : Bytes → ℕ → ℕ → ℕ → Expected
  refuses : Refusal → Expected

abbrev pub outcome_by : Mend → Option Refusal → Expected
outcome_by m none = mends m.bytes m.repairs.breaks m.repairs.spaces m.repairs.lines
outcome_by m (some r) = refuses r

abbrev pub outcome : Bytes → Expected
outcome p = let m = mend p in outcome_by m (first (mend_findings p m.bytes 4096))

abbrev pub same_outcome : Expected → Expected → Bool
same_outcome (mends p b s l) (mends q c t m) = same p q && eqb b c && eqb s t && eqb l m
same_outcome (mends p b s l) (refuses r) = false
same_outcome (refuses r) (mends p b s l) = false
same_outcome (refuses r) (refuses q) = same_verdict (refused r) (refused q)

pub record Row : Type 0 where
  pub payload : Bytes
  pub gives : Expected

abbrev pub row : Bytes → Expected → Row
row p o = record { payload = p; gives = o }

unfoldable pub all_right : List Row → Bool
all_right [] = true
all_right (r ∷ rs) = same_outcome (outcome r.payload) r.gives && all_right rs

-- lines, parted by a lone CR
abbrev by_cr : List Bytes → Bytes
by_cr [] = []
by_cr (l ∷ []) = l
by_cr (l ∷ m ∷ ls) = l ++ (13 ∷ by_cr (m ∷ ls))

abbrev base : Bytes
base = joined Lf B

pub mangled : List Row
mangled =
    -- what the reader accepts: LF, CR LF, a line 32 that is empty
    row base (mends base 0 0 0)
    ∷ row (joined CrLf B) (mends (joined CrLf B) 0 0 0)
    ∷ row (base ++ ascii "\n") (mends (base ++ ascii "\n") 0 0 0)
    -- step 1: lone CR; CR LF and LF mixed
    ∷ row (by_cr B) (mends base 30 0 0)
    ∷ row (ascii "SPC\r\n" ++ drop 4 base) (mends base 1 0 0)
    -- CR CR LF is two breaks
    ∷ row (ascii "SPC\r\r\n" ++ drop 4 base) (refuses (under 6 2))
    -- step 2: spaces that end a line, and the payload; a leading one stays
    ∷ row (joined Lf (put 6 " Schule Muster  " (put 12 " " (put 31 "EPD   " B)))) (mends (joined Lf (put 6 " Schule Muster" B)) 0 6 0)
    -- step 3: spaces within the account and the reference, and in no other line
    ∷ row (joined CrLf (put 4 " CH58 0079 1123 0008 8901 2 " (put 29 "RF18 5390 0754 7034" B))) (mends base 30 10 0)
    ∷ row (joined Lf (put 5 " S" (put 31 "EPD " B))) (refuses (under 10 5))
    -- step 4: empty last lines past line 31, also those that lost their spaces
    ∷ row (base ++ ascii "\n\n") (mends base 0 0 2)
    ∷ row (base ++ ascii "\r\n  \n \r") (mends base 2 3 3)
    ∷ row (joined Lf (B ++ lines "|//S1|")) (mends (joined Lf (B ++ lines "|//S1")) 0 0 1)
    -- nothing is left; a byte's place counts in the mended bytes
    ∷ row (ascii "   ") (refuses (under 1 0))
    ∷ row (joined CrLf (put_bytes 6 (0 ∷ []) (put 3 "1 " B))) (refuses (under_at 3 6 35))
    ∷ []

pub the_mangled_cases : T (all_right mangled)
unfolding mangled all_right mend mend_findings as_lf padding unpadded unspaced shortened how_many verdict swiss rules latin bill_of cut break_width passes walk bad_place characters line_feeds first_such findings first numeral remainder97 carry check_digit flatten
the_mangled_cases = tt
