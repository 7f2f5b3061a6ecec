-- What the functions' structs mean. Assumes nothing.
use Rattle.std.specs.Prelude.{ℕ, ◌+◌, ◌≡◌, length, drop}
use Rattle.sieve.specs.Bytes.{Bytes}
use Rattle.sieve.specs.Lines.{cut}
use Rattle.sieve.specs.Characters.{break_width}
use Rattle.sieve.specs.Places.{Placed}
use Rattle.lines.specs.declared.LineAt.{LineAt}
use Rattle.lines.specs.declared.Place.{Place}

-- the line that starts at place `from` ends before its break, and the next one starts after it
pub record IsLineAt (s : Bytes) (from : ℕ) (r : LineAt) : Type 0 where
  pub end : r.end ≡ from + length (cut (drop from s)).first
  pub next : r.next ≡ r.end + break_width (drop r.end s)

-- the place is that of a line
pub record IsPlaceOf (l : Placed) (r : Place) : Type 0 where
  pub start : r.start ≡ l.start
  pub bytes : r.bytes ≡ length l.text
