-- A test of every number below a limit, computed once, holds for each; so do two tests that agree. Assumes nothing.
use Prim.Native.Nat.{ℕ, zero, suc, ◌<◌}
use native.Mathlib.Omega.{arith}
use mathlib.Core.Bool.{Bool, true, false, false≢true, beq, ◌&&◌, and-eq-true_iff}
use mathlib.Core.Path.{◌≡◌, refl}
use lib.Dec.{eqb}
use borrow.Author.Tests.{eqb-true, eqb-false}

-- every number below n passes a test
abbrev pub below : (ℕ → Bool) → ℕ → Bool
below f zero = true
below f (suc n) = f n && below f n

pub each_of : (f : ℕ → Bool) (n : ℕ) → below f n ≡ true → (i : ℕ) → i < n → f i ≡ true
each_of f zero h i k = absurd (omega arith)
each_of f (suc n) h i k = by_cases (eqb i n) refl ((and-eq-true_iff (f n) (below f n)).0 h) (each_of f n)
  where
    by_cases : (b : Bool) → eqb i n ≡ b → (f n ≡ true) × (below f n ≡ true) → (below f n ≡ true → (i : ℕ) → i < n → f i ≡ true) → f i ≡ true
    by_cases true e (here, rest) more = rw (eqb-true i n e) here
    by_cases false e (here, rest) more = more rest i (omega (arith, eqb-false i n e))

equal : (a b : Bool) → beq a b ≡ true → a ≡ b
equal true true e = refl
equal true false e = absurd (false≢true e)
equal false true e = absurd (false≢true e)
equal false false e = refl

pub agree : (f g : ℕ → Bool) (n : ℕ) → below (λ x. beq (f x) (g x)) n ≡ true → (i : ℕ) → i < n → f i ≡ g i
agree f g n h i k = equal (f i) (g i) (each_of (λ x. beq (f x) (g x)) n h i k)
