-- Where a viewer stands in a payload, and what it hands out there. Assumes nothing.
use Rattle.std.specs.Prelude.{ℕ, zero, suc, ◌+◌, Bool, cond, List, [], ◌∷◌, eqb, ltb, length, drop}
use Rattle.sieve.specs.Bytes.{Bytes}
use Rattle.sieve.specs.Lines.{cut}
use Rattle.sieve.specs.Characters.{break_width}
use Rattle.sieve.specs.Verdict.{Verdict, accepted, refused, verdict}
use Rattle.swiss.specs.Swiss.{swiss}

-- past the last line: one past the payload's end, where no line starts
abbrev pub past : Bytes → ℕ
past p = length p + 1

-- where a viewer is opened: at the first line; past the last one where the payload is refused
abbrev pub opened : Bytes → Verdict → ℕ
opened p (accepted n k) = 0
opened p (refused r) = past p

abbrev pub is_done : Bytes → ℕ → Bool
is_done p at = ltb (length p) at

-- the line that starts at a place, without its break; past the end it is empty
unfoldable pub line_from : Bytes → ℕ → Bytes
line_from p at = (cut (drop at p)).first

-- where the line after it starts: behind its break; past the last line where no break follows
unfoldable pub next_from : Bytes → ℕ → ℕ
next_from p at = let end = at + length (line_from p at) in let b = break_width (drop end p) in cond (eqb b 0) (past p) (end + b)

-- where a viewer stands that was opened and then moved on so many times
unfoldable pub standing : Bytes → ℕ → ℕ
standing p zero = opened p (verdict swiss p)
standing p (suc i) = next_from p (standing p i)

-- the place so many lines after a place
unfoldable pub moved_from : Bytes → ℕ → ℕ → ℕ
moved_from p zero at = at
moved_from p (suc i) at = moved_from p i (next_from p at)

-- what is handed out from a place on, asked at most so many times, until it is done
unfoldable pub shown_from : Bytes → ℕ → ℕ → List Bytes
shown_from p zero at = []
shown_from p (suc m) at = cond (is_done p at) [] (line_from p at ∷ shown_from p m (next_from p at))
