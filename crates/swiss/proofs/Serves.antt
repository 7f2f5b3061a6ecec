-- The code can serve the Swiss bill, in each edition. Assumes nothing.
use mathlib.Core.Bool.{true}
use mathlib.Core.List.{flatten}
use mathlib.Core.Path.{◌≡◌, refl}
use lib.Dec.{lit≤}
use Rattle.sieve.specs.Places.{list_size}
use Rattle.sieve.specs.Serves.{small_rules, Serves}
use Rattle.sieve.proofs.Latin.{lawful}
use Rattle.swiss.specs.declared.Edition.{Edition}
use Rattle.swiss.specs.declared.Edition.TheVariants.{V24}
use Rattle.swiss.specs.Swiss.{rules, swiss_in, swiss}

small_rules_lem : (e : Edition) → small_rules (rules e) ≡ true
unfolding rules small_rules flatten
small_rules_lem e = refl

pub edition_serves : (e : Edition) → Serves (swiss_in e)
edition_serves e = record { lawful = λ ls. lawful; two = lit≤ tt; few = lit≤ tt; short = lit≤ tt; small = small_rules_lem e }

pub swiss_serves : Serves swiss
unfolding swiss
swiss_serves = edition_serves V24

-- its list has 102 numbers
pub list_size_lem : (e : Edition) → list_size (swiss_in e) ≡ 102
list_size_lem e = refl
