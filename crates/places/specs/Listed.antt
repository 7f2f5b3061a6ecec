-- The list of places of any bytes that are cut into lines. Assumes nothing.
use Rattle.std.specs.Prelude.{ℕ, ◌-◌, ◌*◌, cond, List, ◌++◌, ◌≡◌, ltb, leb, length, take, replicate}
use Rattle.sieve.specs.Bytes.{Bytes}
use Rattle.sieve.specs.Places.{entries, walk_lines, walk_numbers}
use Rattle.lines.specs.LinesIn.{lines_in, lines_at}

-- an entry for each line that there is room for
unfoldable pub listed : Bytes → List ℕ
listed p = entries walk_lines (length p) (lines_in p)

-- the greatest number of 16 bits
abbrev pub greatest : ℕ
greatest = 65535

-- the list of bytes that 16 bits count; of more bytes all numbers are 0
abbrev pub listed_short : Bytes → List ℕ
listed_short p = cond (leb (length p) greatest) (listed p) (replicate walk_numbers 0)

-- the list while it is filled: the numbers of n lines, and what is still to come from place `at` on
abbrev pub Filled : Bytes → List ℕ → ℕ → ℕ → Type 0
Filled p l at n = take (2 * n) l ++ entries (walk_lines - n) (length p) (lines_at p at) ≡ listed p

-- how many of so many lines are listed
abbrev pub listed_of : ℕ → ℕ
listed_of n = cond (ltb n walk_lines) n walk_lines
