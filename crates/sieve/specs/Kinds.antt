-- The kinds of rule about one line, with the paper's numbers 6 to 11. Assumes nothing.
use Rattle.std.specs.Prelude.{ℕ, ◌&&◌, not, List, ltb}
use Prim.Native.String.{String}
use Rattle.sieve.specs.Bytes.{Bytes}
use Rattle.sieve.specs.Characters.{characters}
use Rattle.sieve.specs.Rules.{Rule, When, line, is_empty, is, unless}

-- 6: none of the fixed texts
abbrev pub fixed_as : ℕ → When → Rule
fixed_as n right = record { number = 6; line = n; broken = unless right }

-- 6: not the fixed text
abbrev pub fixed : ℕ → String → Rule
fixed n t = fixed_as n (is n t)

-- 7: must be empty and isn't
abbrev pub empty : ℕ → When → Rule
empty n when = record { number = 7; line = n; broken = λ ls. when ls && not (is_empty n ls) }

-- 8: must not be empty and is
abbrev pub filled : ℕ → When → Rule
filled n when = record { number = 8; line = n; broken = λ ls. when ls && is_empty n ls }

-- 9: over its length, in a size that the lines may choose
abbrev pub sized_at_most : (List Bytes → Bytes → ℕ) → ℕ → ℕ → Rule
sized_at_most size most n = record { number = 9; line = n; broken = λ ls. ltb most (size ls (line n ls)) }

-- 9: over its length, in characters of 01
abbrev pub at_most : ℕ → ℕ → Rule
at_most = sized_at_most (λ ls. characters)

-- 10: not empty and not of its form
abbrev pub formed : ℕ → When → Rule
formed n right = record { number = 10; line = n; broken = λ ls. not (is_empty n ls) && not (right ls) }

-- 11: check digits wrong
abbrev pub checked : ℕ → When → Rule
checked n right = record { number = 11; line = n; broken = unless right }
