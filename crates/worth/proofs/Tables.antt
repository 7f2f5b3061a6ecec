-- Two tests that are equal on all pairs of numbers below a bound, by one test that is computed. Assumes nothing.
use Prim.Native.Nat.{ℕ, ◌<◌}
use mathlib.Core.Bool.{Bool, true, beq}
use mathlib.Core.Path.{◌≡◌}
use Rattle.sieve.proofs.Below.{below, each_of, agree as below-agree}

-- two tests of two numbers are equal below n
abbrev pub agree : ℕ → (ℕ → ℕ → Bool) → (ℕ → ℕ → Bool) → Bool
agree n f g = below (λ u. below (λ v. beq (f u v) (g u v)) n) n

pub agreed : (n : ℕ) (f g : ℕ → ℕ → Bool) → agree n f g ≡ true → (u v : ℕ) → u < n → v < n → f u v ≡ g u v
agreed n f g e u v h k = below-agree (f u) (g u) n (each_of (λ u. below (λ v. beq (f u v) (g u v)) n) n e u h) v k
