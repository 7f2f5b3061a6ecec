-- Which byte a refusal under 3 points at. Assumes nothing.
use Rattle.std.specs.Prelude.{ℕ, suc, ◌+◌, ◌-◌, ◌≤◌, ◌<◌, true, ◌⊎◌, ◌≡◌, length, get_or, take, drop}
use mathlib.Core.List.{List, [], ◌∷◌, ◌++◌, Memᴰ}
use Rattle.std.proofs.Math.Option.{none}
use Rattle.sieve.specs.declared.Break.{Break}
use Rattle.sieve.specs.Bytes.{Bytes}
use Rattle.sieve.specs.Lines.{break_bytes, of_break, joined, cut, lines_of}
use Rattle.sieve.specs.Characters.{Width, break_width, line_feeds}
use Rattle.sieve.specs.Rules.{Layout}
use Rattle.sieve.specs.Breaks.{Passed}
use Rattle.sieve.specs.Places.{placed}
use Rattle.sieve.specs.Writing.{stray_break}
use Rattle.sieve.specs.Lawful.{Clean}

-- place `at` is the first in p, and lies on line i, where neither a character nor a break begins
pub record BeginsNeither (w : Width) (p : Bytes) (i at : ℕ) : Type 0 where
  pub inside : at < length p
  -- what stands before it is a run of characters and breaks
  pub before : Passed w (drop at p) (take at p)
  pub no_character : w (drop at p) ≡ 0
  pub no_break : break_width (drop at p) ≡ 0
  pub line : i ≡ 1 + line_feeds (take at p)

-- lines, each with a break after it
abbrev pub before_breaks : Break → List Bytes → Bytes
before_breaks k [] = []
before_breaks k (l ∷ ls) = l ++ (break_bytes k ++ before_breaks k ls)

-- at place `at` of the joined lines lies the first CR or LF that a line holds, and line i holds it
pub record HoldsBreak (k : Break) (ls : List Bytes) (i at : ℕ) : Type 0 where
  pub inside : at < length (joined k ls)
  pub byte : of_break (get_or (joined k ls) at 0) ≡ true
  -- line i, counted from 1
  pub before : List Bytes
  pub line : Bytes
  pub after : List Bytes
  pub lines : ls ≡ before ++ (line ∷ after)
  pub number : i ≡ suc (length before)
  -- it starts behind the lines before it, and the place lies in it
  pub from : length (before_breaks k before) ≤ at
  pub to : at < length (before_breaks k before) + length line
  -- no line before it holds one, nor does it itself before that place
  pub first_line : (l : Bytes) → Memᴰ l before → Clean l
  pub first_byte : Clean (take (at - length (before_breaks k before)) line)

-- what the writer finds under 3: the first CR or LF that a line holds, or, where no line holds any, what the reader finds in the joined lines
abbrev pub PointsInto : Layout → Break → List Bytes → ℕ → ℕ → Type 0
PointsInto L k ls i at = HoldsBreak k ls i at ⊎ ((stray_break 1 (placed 0 k ls) ≡ none) × BeginsNeither (L.width (lines_of (cut (joined k ls)))) (joined k ls) i at)
