-- The rules of the girocode stand in the sieve's order: line after line, on each line the smallest number; then 12 at line 11. Assumes nothing.
use mathlib.Core.List.{[], ◌∷◌, flatten}
use Rattle.std.specs.Prelude.{T}
use Rattle.sieve.specs.Order.{ascending, refusing, in_order}
use Rattle.sieve.specs.Verdict.{under}
use Rattle.girocode.specs.Girocode.{rules}

pub in_order_lem : T (in_order (under 12 11 ∷ []) rules)
unfolding in_order ascending refusing rules flatten
in_order_lem = tt
