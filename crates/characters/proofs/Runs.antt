-- The run of bytes at the front that pass a test, a byte at a time. Assumes nothing.
use Prim.Native.Nat.{ℕ, zero, suc, ◌≤◌, ◌<◌}
use native.Mathlib.Omega.{arith}
use mathlib.Core.Bool.{Bool, true, false}
use mathlib.Core.List.{[], ◌∷◌}
use mathlib.Core.Path.{◌≡◌, refl, ap}
use lib.ListN.{length, get_or}
use Rattle.std.proofs.Common.{Option, None, Some}
use Rattle.std.specs.Option.{MatchOption, unwrap_or}
use Rattle.sieve.specs.Bytes.{Bytes}
use Rattle.sieve.proofs.Bounds.{case_at_most}
use Rattle.characters.specs.Runs.{run}

module _ (f : ℕ → Bool) where
  pub few : (t : Bytes) → run f t ≤ length t
  unfolding run
  few [] = omega arith
  few (x ∷ t) = omega (arith, case_at_most (suc (length t)) (f x) {x = suc (run f t)} {y = 0} (λ e. omega (arith, few t)) (omega arith))

  -- each byte of the run passes
  pub in_run : (i : ℕ) (t : Bytes) → i < run f t → f (get_or t i 0) ≡ true
  unfolding run
  in_run i [] h = absurd (omega arith)
  in_run i (x ∷ t) h = along i (f x) refl h (λ j. in_run j t)
    where
      along : (i : ℕ) (b : Bool) → f x ≡ b → i < run f (x ∷ t) → ((j : ℕ) → j < run f t → f (get_or t j 0) ≡ true) → f (get_or (x ∷ t) i 0) ≡ true
      along zero true q k more = q
      along (suc j) true q k more = let p = rw q at k in more j (omega arith)
      along zero false q k more = let p = rw q at k in absurd (omega arith)
      along (suc j) false q k more = let p = rw q at k in absurd (omega arith)

  -- it ends at the first byte that does not pass, or with the bytes
  ends : (n : ℕ) (t : Bytes) → n ≤ length t → ((k : ℕ) → k < n → f (get_or t k 0) ≡ true) → (n < length t → f (get_or t n 0) ≡ false) → n ≡ run f t
  unfolding run
  ends zero [] h before stop = refl
  ends zero (x ∷ t) h before stop = rw (stop (omega arith))
  ends (suc n) [] h before stop = absurd (omega arith)
  ends (suc n) (x ∷ t) h before stop =
      let more = ends n t (omega arith) (λ k i. before (suc k) (omega arith)) (λ i. stop (omega arith)) in
      rw (before 0 (omega arith)) (ap suc more)

  pub first_other : (r : Option ℕ) (t : Bytes) → MatchOption r ((k : ℕ) → k < length t → f (get_or t k 0) ≡ true) (λ n. (n < length t) × ((k : ℕ) → k < n → f (get_or t k 0) ≡ true) × (f (get_or t n 0) ≡ false)) → unwrap_or r (length t) ≡ run f t
  first_other None t all = ends (length t) t (omega arith) all (λ h. absurd (omega arith))
  first_other (Some n) t (here, before, stop) = ends n t (omega arith) before (λ h. stop)
