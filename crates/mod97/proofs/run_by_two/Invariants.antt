use Prim.Native.Nat.{◌*◌, ◌%◌, ◌<◌}
use mathlib.Core.Path.{◌≡◌}
use lib.ListN.{drop}
use Rattle.sieve.specs.Mod97.{numeral}
use Rattle.mod97.proofs.run_by_two.Given as goal

abbrev pub invariant-loop-i : goal.invariant-loop-i
invariant-loop-i l = record {
  small : l.r < 97;
  all : numeral l.n l.s % 97 ≡ numeral l.r (drop (2 * l.i) l.s) % 97;
}
