-- When a bill keeps every rule of a layout. Nothing here mentions a reader. Assumes nothing.
use Rattle.std.specs.Prelude.{◌≤◌, false, ◌≡◌, length}
use mathlib.Core.List.{Memᴰ}
use Rattle.sieve.specs.Bytes.{Bytes}
use Rattle.sieve.specs.Lines.{Bill, written}
use Rattle.sieve.specs.Characters.{Text}
use Rattle.sieve.specs.Rules.{Rule, Layout}

pub record Keeps (L : Layout) (b : Bill) : Type 0 where
  -- as many lines as the layout allows
  pub enough : L.fewest_lines ≤ length b.lines
  pub not_too_many : length b.lines ≤ L.most_lines
  -- each line a run of allowed characters
  pub text : (l : Bytes) → Memᴰ l b.lines → Text (L.width b.lines) l
  -- not too many bytes when it is written
  pub fits : length (written b) ≤ L.most_bytes
  -- no rule about lines is broken
  pub unbroken : (r : Rule) → Memᴰ r L.rules → r.broken b.lines ≡ false
