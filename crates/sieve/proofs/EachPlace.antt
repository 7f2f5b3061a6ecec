-- A test of every byte of a text, or of a part of it, is one of the byte at each place. Assumes nothing.
use Prim.Native.Nat.{ℕ, zero, suc, ◌+◌, ◌-◌, ◌≤◌, ◌<◌}
use native.Mathlib.Omega.{arith}
use mathlib.Core.Bool.{Bool, true, and-eq-true_iff}
use mathlib.Core.List.{[], ◌∷◌}
use mathlib.Core.Logic.{◌↔◌}
use mathlib.Core.Path.{◌≡◌, refl, ◌∙◌}
use lib.ListN.{length, get_or, take, drop, length-drop}
use lib.Seq.{length-take-le, get_or-take, get_or-drop}
use Rattle.sieve.specs.Bytes.{Bytes, every}

module _ (f : ℕ → Bool) where
  at : (s : Bytes) → every f s ≡ true → (i : ℕ) → i < length s → f (get_or s i 0) ≡ true
  at [] h i k = absurd (omega arith)
  at (x ∷ s) h zero k = ((and-eq-true_iff (f x) (every f s)).0 h).0
  at (x ∷ s) h (suc i) k = at s ((and-eq-true_iff (f x) (every f s)).0 h).1 i (omega arith)

  all : (s : Bytes) → ((i : ℕ) → i < length s → f (get_or s i 0) ≡ true) → every f s ≡ true
  all [] h = refl
  all (x ∷ s) h = (and-eq-true_iff (f x) (every f s)).1 (h 0 (omega arith), all s (λ i k. h (suc i) (omega arith)))

  -- of a whole text
  pub each_place : (s : Bytes) → (every f s ≡ true) ↔ ((i : ℕ) → i < length s → f (get_or s i 0) ≡ true)
  each_place s = (at s, all s)

  -- of the part from one place on and below another
  pub each_place_of : (from to : ℕ) (s : Bytes) → from ≤ to → to ≤ length s → (every f (take (to - from) (drop from s)) ≡ true) ↔ ((i : ℕ) → from ≤ i → i < to → f (get_or s i 0) ≡ true)
  each_place_of from to s h k = (there, λ g. (each_place part).1 (λ j l. rw (byte j (omega (arith, long))) (g (from + j) (omega arith) (omega (arith, long)))))
    where
      part : Bytes
      part = take (to - from) (drop from s)

      long : length part ≡ to - from
      long = length-take-le (to - from) (drop from s) (omega (arith, length-drop from s))

      byte : (j : ℕ) → j < to - from → get_or part j 0 ≡ get_or s (from + j) 0
      byte j l = get_or-take (to - from) (drop from s) j 0 l ∙ get_or-drop from s j 0

      there : every f part ≡ true → (i : ℕ) → from ≤ i → i < to → f (get_or s i 0) ≡ true
      there e i a b = let j : from + (i - from) ≡ i = omega arith in rw (← j, ← byte (i - from) (omega arith)) ((each_place part).0 e (i - from) (omega (arith, long)))
