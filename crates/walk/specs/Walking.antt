-- What one walk over any bytes tells. Assumes nothing.
use Rattle.std.specs.Prelude.{ℕ, ◌+◌, ◌-◌, ◌*◌, ◌%◌, ◌^◌, ◌≤◌, ◌<◌, cond, Err, List, ◌≡◌, ltb, take, set, replicate}
use Rattle.std.proofs.Math.Option.{Option, some, none}
use Rattle.sieve.specs.Places.{walk_lines, walk_numbers}
use Rattle.sieve.specs.declared.Fault.TheVariants.{BadCharacter}
use Rattle.sieve.specs.Bytes.{Bytes}
use Rattle.sieve.specs.Characters.{line_feeds}
use Rattle.sieve.specs.Paper.{Answer}
use Rattle.lines.specs.Parted.{breaks_in}
use Rattle.places.specs.Listed.{listed_short}
use Rattle.walk.specs.declared.Behind.{Behind}

-- the line (1 + LF bytes before) and the place of the first bad byte; where none is bad, how the lines are parted
abbrev pub told : Bytes → Option ℕ → Answer
told s none = breaks_in s
told s (some at) = Err (BadCharacter (1 + line_feeds (take at s)) at)

-- what one walk tells, and the list that it fills: where a byte is bad, no places, and of bytes that 16 bits do not count
pub record IsTold (s : Bytes) (o : Option ℕ) (r : Answer) (after : List ℕ) : Type 0 where
  pub told : r ≡ told s o
  pub places : after ≡ elim o [ none ↦ listed_short s | some at ↦ replicate walk_numbers 0 ]

-- on the way

-- a list in which a line is noted behind n others, if it is among those that are listed: of each number, 16 bits
abbrev pub noted : List ℕ → ℕ → ℕ → ℕ → List ℕ
noted l n start bytes = cond (ltb n walk_lines) (set (set l (2 * n) (start % 65536)) (2 * n + 1) (bytes % 65536)) l

-- the lines behind the walk, and one more, ended by a break of this width at a place
abbrev pub behind_one_passed : Behind → ℕ → ℕ → Behind
behind_one_passed passed at width = record { feeds = passed.feeds + 1; returns = passed.returns + (width - 1); start = at + width }

-- its numbers fit
pub record Passable (passed : Behind) (at width : ℕ) : Type 0 where
  pub feeds : passed.feeds ≤ at
  pub returns : passed.returns ≤ at
  pub wide : 1 ≤ width
  pub fits : at + width < 2 ^ 64
