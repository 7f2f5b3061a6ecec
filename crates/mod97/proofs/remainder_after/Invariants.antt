use Prim.Native.Nat.{◌%◌}
use mathlib.Core.Path.{◌≡◌}
use lib.ListN.{drop}
use Rattle.sieve.specs.Mod97.{numeral}
use Rattle.mod97.proofs.remainder_after.Given as goal

abbrev pub invariant-loop-x : goal.invariant-loop-x
invariant-loop-x l = numeral l.n l.s % 97 ≡ numeral l.r (drop l.x-index l.s) % 97
