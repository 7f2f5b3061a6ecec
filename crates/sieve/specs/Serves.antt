-- What the code asks of a layout that it serves. Assumes nothing.
use Rattle.std.specs.Prelude.{ℕ, ◌≤◌, ◌<◌, Bool, true, ◌&&◌, ◌||◌, List, [], ◌∷◌, ◌≡◌, eqb, ltb, leb}
use Rattle.sieve.specs.Bytes.{Bytes}
use Rattle.sieve.specs.Rules.{Rule, Layout}
use Rattle.sieve.specs.Lawful.{Lawful}

-- the numbers that a verdict may have: 14 and 15 are the reader's and the writer's own, and 16 is none
abbrev pub of_verdict : ℕ → Bool
of_verdict n = leb n 13 || eqb n 17

-- rules about lines name a line below 1000, and have such a number
unfoldable pub small_rules : List Rule → Bool
small_rules [] = true
small_rules (r ∷ rs) = (ltb r.line 1000 && of_verdict r.number) && small_rules rs

pub record Serves (L : Layout) : Type 0 where
  -- whichever characters the lines choose, none holds LF or CR, and none hangs on what comes after it
  pub lawful : (ls : List Bytes) → Lawful (L.width ls)
  -- two lines or more, so there is a break that tells which one it is
  pub two : 2 ≤ L.fewest_lines
  -- no more lines than the walk has places for
  pub few : L.most_lines ≤ 34
  -- so few bytes that three digits tell any place, and any count of lines
  pub short : L.most_bytes < 999
  -- its rules about lines name such lines too, and numbers that a verdict may have
  pub small : small_rules L.rules ≡ true
