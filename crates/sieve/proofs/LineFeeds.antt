-- How many LF some bytes hold. Assumes nothing.
use Prim.Native.Nat.{◌+◌, ◌≤◌}
use native.Mathlib.Nat.{zero-add}
use native.Mathlib.Omega.{arith}
use mathlib.Core.List.{[], ◌∷◌, ◌++◌}
use mathlib.Core.Path.{◌≡◌, sym}
use lib.Dec.{eqb}
use lib.ListN.{length}
use Rattle.sieve.specs.Bytes.{Bytes}
use Rattle.sieve.specs.Characters.{line_feeds}
use Rattle.sieve.proofs.Bounds.{case_at_most}

pub feeds_append : (a b : Bytes) → line_feeds (a ++ b) ≡ line_feeds a + line_feeds b
unfolding line_feeds
feeds_append [] b = sym (zero-add (line_feeds b))
feeds_append (x ∷ a) b = omega (arith, feeds_append a b)

pub feeds_few : (s : Bytes) → line_feeds s ≤ length s
unfolding line_feeds
feeds_few [] = omega arith
feeds_few (x ∷ s) = omega (arith, feeds_few s, case_at_most 1 (eqb x 10) {x = 1} {y = 0} (λ e. omega arith) (omega arith))
