-- Whose account a payload names, at a glance: by its first 37 bytes, and by whether there are more. Assumes nothing.
use Rattle.std.specs.Prelude.{ℕ, ◌+◌, Some, None, Bool, true, false, cond, List, map, ◌++◌, ltb, length, take}
use Rattle.std.proofs.Math.Option.{Option, some, none}
use Rattle.sieve.specs.Bytes.{Bytes}
use Rattle.sieve.specs.Lines.{cut, lines_of, breaks_of}
use Rattle.sieve.specs.Places.{Placed}
use Rattle.sieve.specs.Verdict.{Refusal, about_lines, first}
use Rattle.lines.specs.LinesIn.{line_of}
use Rattle.swiss.specs.Swiss.{header, account}
use Rattle.lines.specs.declared.Place.{Place}

-- how many bytes are looked at
abbrev pub looked : ℕ
looked = 37

-- how many lines of these bytes are whole: those that a break ends, and the last one where there are no more bytes
abbrev pub whole_lines : Bytes → Bool → ℕ
whole_lines head more = length (breaks_of (cut head)) + cond more 0 1

-- what is found first in lines 1 to 4
abbrev pub found_in : List Bytes → Option Refusal
found_in ls = first (map (about_lines ls) (header ++ account))

-- line 4, unless fewer than four lines are whole or something is found
abbrev pub unless_found : Bool → Option Refusal → Placed → Option Placed
unless_found true o l = none
unless_found false (some r) l = none
unless_found false none l = some l

-- line 4 of these bytes, if lines 1 to 4 are whole and break none of their rules
unfoldable pub look : Bytes → Bool → Option Placed
look head more = unless_found (ltb (whole_lines head more) 4) (found_in (lines_of (cut head))) (line_of head 4)

-- the look at a payload: at its first 37 bytes, and at whether there are more
unfoldable pub glance : Bytes → Option Placed
glance p = look (take looked p) (ltb looked (length p))

-- the answer: its place
abbrev pub known : ℕ → ℕ → Rattle.std.specs.Prelude.Option Place
known start bytes = Some (record { start = start; bytes = bytes })

abbrev pub account_as : Option Placed → Rattle.std.specs.Prelude.Option Place
account_as none = None
account_as (some l) = known l.start (length l.text)
