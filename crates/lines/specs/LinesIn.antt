-- Where the lines of any bytes lie. Assumes nothing.
use Rattle.std.specs.Prelude.{ℕ, ◌+◌, ◌-◌, List, [], ◌∷◌, length, drop, get_or}
use Rattle.sieve.specs.Bytes.{Bytes}
use Rattle.sieve.specs.Lines.{Next, break_bytes, cut}
use Rattle.sieve.specs.Places.{Placed}

-- a line that starts at place `at`, and those after it, each behind its break
unfoldable pub lines_from : ℕ → Bytes → List Next → List Placed
lines_from at l [] = record { start = at; text = l } ∷ []
lines_from at l (n ∷ ns) = record { start = at; text = l } ∷ lines_from (at + length l + length (break_bytes n.break)) n.line ns

-- all lines of any bytes
unfoldable pub lines_in : Bytes → List Placed
lines_in s = lines_from 0 (cut s).first (cut s).rest

-- the lines from a place on
abbrev pub lines_at : Bytes → ℕ → List Placed
lines_at s at = lines_from at (cut (drop at s)).first (cut (drop at s)).rest

-- line n, counted from 1; an absent line has no bytes, and lies at the end
unfoldable pub line_of : Bytes → ℕ → Placed
line_of s n = get_or (lines_in s) (n - 1) (record { start = length s; text = [] })
