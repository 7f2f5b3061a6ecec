-- `places::Payload::line` meets its contract: the list says where the line lies. Assumes nothing.
use Prim.Native.Nat.{ℕ, ◌-◌, ◌*◌, ◌≤◌}
use mathlib.Core.List.{List}
use mathlib.Core.Path.{◌≡◌, ap, ◌∙◌}
use lib.ListN.{get_or}
use Rattle.sieve.specs.Bytes.{Bytes}
use Rattle.sieve.specs.Lines.{cut, lines_of}
use Rattle.sieve.specs.Places.{walk_lines}
use Rattle.sieve.specs.Rules.{line}
use Rattle.places.specs.Listed.{listed}
use Rattle.places.proofs.Listed.{LineAtPlace, listed_line, part_is_line}
use Rattle.places.proofs.Payload.line.Goals as goal

-- what the list says of the line
place : (p : Bytes) (places : List ℕ) (n : ℕ) → places ≡ listed p → 1 ≤ n → n ≤ walk_lines → LineAtPlace p n (get_or places (2 * n - 2) 0) (get_or places (2 * n - 1) 0)
place p places n is h k = rw is (listed_line p n h k)

pub slice_bounds-result-end : goal.slice_bounds-result-end
slice_bounds-result-end c = let s = c.self.inside in (place s.bytes.now s.places.now c.args.n c.self.invariant c.requires.0 c.requires.1).within

pub returns : goal.returns
returns c = let s = c.self.inside in part_is_line (place s.bytes.now s.places.now c.args.n c.self.invariant c.requires.0 c.requires.1) ∙ ap (λ (p : Bytes). line c.args.n (lines_of (cut p))) c.self.view_is
