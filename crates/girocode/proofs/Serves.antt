-- The code can serve the girocode. Assumes nothing.
use mathlib.Core.Bool.{true}
use mathlib.Core.List.{flatten}
use mathlib.Core.Path.{◌≡◌, refl}
use lib.Dec.{lit≤}
use Rattle.sieve.specs.Serves.{small_rules, Serves}
use Rattle.girocode.specs.Girocode.{rules, girocode}
use Rattle.girocode.proofs.DemandThree.{chosen_lawful}

small_rules_lem : small_rules rules ≡ true
unfolding rules small_rules flatten
small_rules_lem = refl

pub girocode_serves : Serves girocode
unfolding girocode
girocode_serves = record { lawful = chosen_lawful; two = lit≤ tt; few = lit≤ tt; short = lit≤ tt; small = small_rules_lem }
