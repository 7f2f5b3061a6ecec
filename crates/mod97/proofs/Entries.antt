-- A table of steps that keeps its rule has at each place the remainder of the place, and there is one such table. Assumes nothing.
use Prim.Native.Nat.{ℕ, zero, suc, ◌+◌, ◌%◌, ◌≤◌, ◌<◌}
use native.Mathlib.Omega.{arith}
use mathlib.Core.Bool.{true, and-eq-true_iff}
use mathlib.Core.List.{[], ◌∷◌}
use mathlib.Core.Path.{◌≡◌, refl, ◌∙◌}
use lib.Dec.{eqb}
use lib.ListN.{get_or}
use borrow.Author.Tests.{eqb-true}
use Rattle.sieve.specs.Bytes.{Bytes}
use Rattle.mod97.specs.Steps.{remainders}

-- places counted from i
from : (t : Bytes) (i k : ℕ) → remainders i t ≡ true → i + k < 970 → get_or t k 0 ≡ (i + k) % 97
unfolding remainders
from [] i k e h = absurd (omega (arith, eqb-true i 970 e))
from (x ∷ t) i zero e h = eqb-true x (i % 97) ((and-eq-true_iff (eqb x (i % 97)) _).0 e).0 ∙ omega arith
from (x ∷ t) i (suc k) e h = from t (suc i) k ((and-eq-true_iff (eqb x (i % 97)) _).0 e).1 (omega arith) ∙ omega arith

-- the rule at each entry
pub remainder_at : (t : Bytes) (k : ℕ) → remainders 0 t ≡ true → k < 970 → get_or t k 0 ≡ k % 97
remainder_at t k e h = from t 0 k e (omega arith) ∙ omega arith

-- places are counted to 970 at most
short : (i : ℕ) (t : Bytes) → remainders i t ≡ true → i ≤ 970
unfolding remainders
short i [] e = omega (arith, eqb-true i 970 e)
short i (x ∷ t) e = omega (arith, short (suc i) t ((and-eq-true_iff (eqb x (i % 97)) _).0 e).1)

-- and one table keeps the rule, with places counted from i: two that do are equal
pub alike : (i : ℕ) (t u : Bytes) → remainders i t ≡ true → remainders i u ≡ true → t ≡ u
unfolding remainders
alike i [] [] e f = refl
alike i [] (y ∷ u) e f = absurd (omega (arith, eqb-true i 970 e, short (suc i) u ((and-eq-true_iff (eqb y (i % 97)) _).0 f).1))
alike i (x ∷ t) [] e f = absurd (omega (arith, eqb-true i 970 f, short (suc i) t ((and-eq-true_iff (eqb x (i % 97)) _).0 e).1))
alike i (x ∷ t) (y ∷ u) e f =
    let (a, b) = (and-eq-true_iff (eqb x (i % 97)) _).0 e in
    let (c, d) = (and-eq-true_iff (eqb y (i % 97)) _).0 f in
    rw (eqb-true x (i % 97) a, eqb-true y (i % 97) c, alike (suc i) t u b d)
