use mathlib.Core.Path.{◌≡◌}
use lib.ListN.{length}
use Rattle.sieve.specs.Places.{walk_numbers}
use Rattle.places.specs.Listed.{listed_of, Filled}
use Rattle.walk.proofs.list_absent.Given as goal

abbrev pub invariant-loop-i : goal.invariant-loop-i
invariant-loop-i l = (length l.places ≡ walk_numbers) × Filled l.s l.places (length l.s) (listed_of l.i)
