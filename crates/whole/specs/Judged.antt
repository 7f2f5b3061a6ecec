-- What a verdict in code answers, over any layout, and what the list of places then holds. Assumes nothing.
use Rattle.std.specs.Prelude.{ℕ, List, ◌≡◌, replicate}
use Rattle.sieve.specs.Places.{walk_numbers}
use Rattle.sieve.specs.Paper.{Answer, paper}
use Rattle.sieve.specs.Bytes.{Bytes}
use Rattle.sieve.specs.Rules.{Layout}
use Rattle.sieve.specs.Verdict.{Verdict, accepted, refused, verdict}
use Rattle.places.specs.Listed.{listed_short}

-- the places of an accepted payload's lines, as the walk lists them; of a refused one all numbers are 0
abbrev pub judged_places : Bytes → Verdict → List ℕ
judged_places p (accepted n k) = listed_short p
judged_places p (refused r) = replicate walk_numbers 0

pub record IsJudged (L : Layout) (p : Bytes) (r : Answer) (after : List ℕ) : Type 0 where
  pub answer : paper r ≡ verdict L p
  pub places : after ≡ judged_places p (verdict L p)
