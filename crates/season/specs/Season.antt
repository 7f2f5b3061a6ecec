-- A recorded pile under both editions: the positions of the bills whose number or line differs, and for each currency the sum in cents of the amounts that 2.2 accepts. Assumes nothing.
use Rattle.std.specs.Prelude.{ℕ, suc, ◌+◌, ◌≤◌, Bool, false, cond, not, ◌&&◌, List, [], ◌∷◌, ◌++◌, ◌≡◌, length, Result, Ok, Err}
use Prim.Native.String.{String}
use Rattle.std.proofs.Math.Option.{Option, some, none}
use Rattle.sieve.specs.declared.Break.{Break}
use Rattle.sieve.specs.Bytes.{Bytes, same}
use Rattle.sieve.specs.Characters.{characters}
use Rattle.sieve.specs.Lines.{cut, lines_of}
use Rattle.sieve.specs.Paper.{paper_fault}
use Rattle.sieve.specs.Places.{inner_of}
use Rattle.sieve.specs.Reading.{Done, no_room_refusal, read_answer}
use Rattle.sieve.specs.Rules.{line, is, no_text}
use Rattle.sieve.specs.Verdict.{Refusal, Verdict, accepted, refused, first, verdict}
use Rattle.sieve.specs.Writing.{handed}
use Rattle.swiss.specs.declared.Edition.TheVariants.{V22, V24}
use Rattle.swiss.specs.Cents.{cents}
use Rattle.swiss.specs.Forms.{amount}
use Rattle.swiss.specs.Limits.{amount_most, francs, euros}
use Rattle.swiss.specs.Swiss.{swiss_in}
use Rattle.pile.specs.Pile.{bill_numbers, place_findings, filled_by}
use Rattle.sieve.specs.declared.Fault.{Fault}
use Rattle.season.specs.declared.Tried.{Tried}
use Rattle.season.specs.declared.Outcome.{Outcome}

-- the positions, the first of them i, of the bills that pass a test
unfoldable pub positions : (Bytes → Bool) → ℕ → List Bytes → List ℕ
positions test i [] = []
positions test i (p ∷ ps) = cond (test p) (i ∷ positions test (suc i) ps) (positions test (suc i) ps)

-- the sum of a number for each bill
unfoldable pub total : (Bytes → ℕ) → List Bytes → ℕ
total number [] = 0
total number (p ∷ ps) = number p + total number ps

-- of two verdicts, number or line differs
abbrev pub apart : Verdict → Verdict → Bool
apart old new = not (same (bill_numbers old) (bill_numbers new))

-- of a bill number or line differs between 2.2 and 2.4
unfoldable pub editions_differ : Bytes → Bool
editions_differ p = apart (verdict (swiss_in V22) p) (verdict (swiss_in V24) p)

-- an amount in a currency, in cents: line 19 where line 20 is that currency; 0 without amount
abbrev pub cents_in : String → List Bytes → ℕ
cents_in currency ls = cond (is 20 currency ls) (cents (line 19 ls)) 0

-- where a verdict accepts
abbrev pub if_accepted : Verdict → ℕ → ℕ
if_accepted (accepted n k) amount = amount
if_accepted (refused r) amount = 0

-- what a bill adds to the sum of a currency: its amount, where 2.2 accepts it
unfoldable pub adds : String → Bytes → ℕ
adds currency p = if_accepted (verdict (swiss_in V22) p) (cents_in currency (lines_of (cut p)))

-- a bill whose number or line differs, and its amount in cents, by single readings, each lent this list: what the reader answers under both editions, and the amount on the lines that the places of 2.2 cut out

abbrev pub read_apart : List ℕ → Bytes → Bool
read_apart lent p = apart (read_answer (swiss_in V22) p lent).answer (read_answer (swiss_in V24) p lent).answer

abbrev pub cents_at : String → Bytes → Done Verdict → ℕ
cents_at currency p d = go d.answer
  where
    go : Verdict → ℕ
    go (accepted n k) = cents_in currency (handed p (inner_of (swiss_in V22) n d.lent) n)
    go (refused r) = 0

abbrev pub read_cents : List ℕ → String → Bytes → ℕ
read_cents lent currency p = cents_at currency p (read_answer (swiss_in V22) p lent)

-- of a whole pile

abbrev pub differing : List Bytes → List ℕ
differing = positions editions_differ 1

abbrev pub sum : String → List Bytes → ℕ
sum currency = total (adds currency)

-- what is found before any bill is tried: as of a pile, with room for as many entries as the count
abbrev pub season_findings : Bytes → List ℕ → ℕ → ℕ → List (Option Refusal)
season_findings buffer places count room = place_findings buffer places count ++ (no_room_refusal room count ∷ [])

-- what is answered, in the paper's words: how many positions are listed, with the sums in CHF and in EUR; or a refusal
pub data Trial : Type 0 where
  tried : ℕ → ℕ → ℕ → Trial
  not_tried : Refusal → Trial

abbrev pub paper_tried : Result Tried Fault → Trial
paper_tried (Ok t) = tried t.listed t.francs t.euros
paper_tried (Err f) = not_tried (paper_fault f)

abbrev pub tried_all : List Bytes → Trial
tried_all ps = tried (length (differing ps)) (sum francs ps) (sum euros ps)

abbrev pub trial_of : List Bytes → Option Refusal → Trial
trial_of ps none = tried_all ps
trial_of ps (some r) = not_tried r

-- of a buffer, places, a count and a list for positions, the answer r and the list afterwards
pub record IsTried (buffer : Bytes) (places : List ℕ) (count : ℕ) (list : List ℕ) (r : Result Tried Fault) (after : List ℕ) : Type 0 where
  pub answer : paper_tried r ≡ trial_of (handed buffer places count) (first (season_findings buffer places count (length list)))
  pub lent : after ≡ filled_by (differing (handed buffer places count)) list (first (season_findings buffer places count (length list)))

-- for the code

-- all were tried: the answer, and the list afterwards
pub record AreTried (ps : List Bytes) (list : List ℕ) (r : Result Tried Fault) (after : List ℕ) : Type 0 where
  pub answer : paper_tried r ≡ tried_all ps
  pub lent : after ≡ filled_by (differing ps) list none

-- what line 19 of an accepted bill may be: empty or an amount, and short
pub record AmountLine (s : Bytes) : Type 0 where
  pub short : characters s ≤ amount_most
  pub formed : (not (no_text s) && not (amount s)) ≡ false

-- 2.2 accepts a payload
pub record IsAccepted (p : Bytes) : Type 0 where
  pub count : ℕ
  pub break : Break
  pub is : verdict (swiss_in V22) p ≡ accepted count break

-- what is told of one bill: whether the editions differ on it, and what it adds to each sum
pub record IsOutcome (p : Bytes) (differs : Bool) (r : Outcome) : Type 0 where
  pub differs_is : r.differs ≡ differs
  pub in_francs : r.francs ≡ adds francs p
  pub in_euros : r.euros ≡ adds euros p
