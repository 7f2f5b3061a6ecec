-- Small piles tried under both editions, as one table under one claim. Assumes nothing.
use Rattle.std.specs.Prelude.{ℕ, ◌+◌, Bool, true, false, ◌&&◌, T, eqb, length, replicate, drop}
use mathlib.Core.List.{List, [], ◌∷◌, ◌++◌, map, flatten}
use Rattle.sieve.specs.declared.Break.TheVariants.{Lf, CrLf}
use Rattle.sieve.specs.Bytes.{Bytes, first_such, same}
use Rattle.sieve.specs.Lines.{cut, bill_of, joined}
use Rattle.sieve.specs.Characters.{break_width, passes, walk, bad_place, characters, line_feeds}
use Rattle.sieve.specs.Verdict.{under, findings, first, verdict}
use Rattle.sieve.specs.Latin.{latin}
use Rattle.sieve.specs.Mod97.{numeral, remainder97}
use Rattle.sieve.specs.Mod10.{carry, check_digit}
use Rattle.sieve.specs.Writing.{spans, handed}
use Rattle.sieve.specs.Cases.{put}
use Rattle.swiss.specs.Base.{B}
use Rattle.swiss.specs.Cents.{cents}
use Rattle.swiss.specs.EditionTable.{K, Q}
use Rattle.swiss.specs.Swiss.{rules}
use Rattle.pile.specs.Pile.{place_findings, filled_by}
use Rattle.season.specs.Season.{positions, total, editions_differ, adds, differing, season_findings, Trial, tried, not_tried, trial_of}

-- the greatest amount
abbrev greatest : List Bytes → List Bytes
greatest = put 19 "999999999.99"

-- a buffer, places, a count and a list; what is answered, and what the list holds then
pub record Row : Type 0 where
  pub buffer : Bytes
  pub places : List ℕ
  pub count : ℕ
  pub list : List ℕ
  pub gives : Trial
  pub after : List ℕ

-- bills that lie one behind the other
abbrev places_from : ℕ → List Bytes → List ℕ
places_from at [] = []
places_from at (p ∷ ps) = at ∷ length p ∷ places_from (at + length p) ps

-- a list with room for one position more than there are bills
abbrev lent : ℕ → List ℕ
lent n = replicate n 9 ++ 7 ∷ []

abbrev pile : List Bytes → List ℕ → ℕ → ℕ → Row
pile ps found c e =
    let list = lent (length ps) in
    record { buffer = flatten ps; places = places_from 0 ps; count = length ps; list = list; gives = tried (length found) c e; after = found ++ drop (length found) list }

abbrev bills : List (List Bytes) → List ℕ → ℕ → ℕ → Row
bills lss = pile (map (joined Lf) lss)

abbrev bad : Bytes → List ℕ → ℕ → List ℕ → ℕ → ℕ → Row
bad buffer places count list r i = record { buffer = buffer; places = places; count = count; list = list; gives = not_tried (under r i); after = list }

abbrev same_trial : Trial → Trial → Bool
same_trial (tried n c e) (tried m d f) = eqb n m && eqb c d && eqb e f
same_trial (tried n c e) (not_tried r) = false
same_trial (not_tried r) (tried m d f) = false
same_trial (not_tried r) (not_tried q) = eqb r.number q.number && eqb r.line q.line

unfoldable pub right_rows : List Row → Bool
right_rows [] = true
right_rows (r ∷ rs) =
    let ps = handed r.buffer r.places r.count in
    let seen = first (season_findings r.buffer r.places r.count (length r.list)) in
    same_trial (trial_of ps seen) r.gives && same (filled_by (differing ps) r.list seen) r.after && right_rows rs

pub season : List Row
season =
    pile [] [] 0 0
    -- one bill: alike in both, type K, QRR with EUR
    ∷ bills (B ∷ []) [] 19995 0
    ∷ bills (K ∷ []) (1 ∷ []) 19995 0
    ∷ bills (Q ∷ []) (1 ∷ []) 0 19995
    ∷ bills (B ∷ K ∷ Q ∷ B ∷ []) (2 ∷ 3 ∷ []) 59985 19995
    -- without amount; in EUR; from 0.01 to the greatest
    ∷ bills (put 19 "" B ∷ put 19 "" K ∷ []) (2 ∷ []) 0 0
    ∷ bills (put 19 "" Q ∷ put 20 "EUR" B ∷ []) (1 ∷ []) 0 19995
    ∷ bills (put 19 "0.01" B ∷ put 19 "0.10" Q ∷ put 19 "1.00" K ∷ []) (2 ∷ 3 ∷ []) 101 10
    ∷ bills (greatest B ∷ greatest K ∷ greatest Q ∷ []) (2 ∷ 3 ∷ []) 199999999998 99999999999
    -- refused alike, which adds nothing; a bill of no bytes; CR LF
    ∷ bills (put 3 "2" B ∷ K ∷ put 19 "0.00" B ∷ []) (2 ∷ []) 19995 0
    ∷ pile ([] ∷ joined CrLf K ∷ []) (2 ∷ []) 19995 0
    -- refused in both: number and line differ, or the line alone
    ∷ bills (put 6 "" K ∷ put 11 "ch" K ∷ put 5 "k" K ∷ []) (1 ∷ 2 ∷ []) 0 0
    -- one place twice
    ∷ (record { buffer = joined Lf K; places = 0 ∷ length (joined Lf K) ∷ 0 ∷ length (joined Lf K) ∷ []; count = 2; list = lent 2; gives = tried 2 39990 0; after = 1 ∷ 2 ∷ 7 ∷ [] })
    -- refusals, in their order: the count, more than the places, a place outside, room
    ∷ bad [] [] 501 (lent 501) 5 0
    ∷ bad [] (0 ∷ 0 ∷ 1 ∷ []) 2 [] 5 0
    ∷ bad [] (0 ∷ 0 ∷ 0 ∷ 1 ∷ []) 2 [] 14 2
    ∷ bad [] (0 ∷ 0 ∷ 0 ∷ 0 ∷ []) 2 (9 ∷ []) 15 0
    ∷ []

pub the_season_table : T (right_rows season)
unfolding season right_rows place_findings positions total editions_differ adds spans handed cents verdict rules latin bill_of cut break_width passes walk bad_place characters line_feeds first_such findings first numeral remainder97 carry check_digit flatten
the_season_table = tt
