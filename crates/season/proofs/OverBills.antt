-- Positions of what passes a test, and sums of numbers, over any bills. Assumes nothing.
use Prim.Native.Nat.{ℕ, zero, suc, ◌+◌, ◌*◌, ◌≤◌, ◌<◌}
use native.Mathlib.Nat.{add-zero}
use native.Mathlib.Omega.{arith}
use mathlib.Core.Bool.{Bool, true, false, cond, ◌&&◌, ◌||◌, true≢false}
use mathlib.Core.List.{List, [], ◌∷◌, ◌++◌}
use mathlib.Core.Path.{◌≡◌, refl, sym, ap, ◌∙◌}
use lib.Dec.{eqb, ltb}
use lib.ListN.{length, get_or}
use borrow.Author.Tests.{lt-ltb, ne_eqb, eq-eqb, eqb-true}
use Rattle.sieve.specs.Bytes.{Bytes}
use Rattle.sieve.proofs.Alphabets.{among}
use Rattle.season.specs.Season.{positions, total}

-- ascending, each once, and above m
unfoldable pub climbs : ℕ → List ℕ → Bool
climbs m [] = true
climbs m (x ∷ l) = ltb m x && climbs x l

module _ (f : Bytes → Bool) where
  -- at most one for each bill
  pub positions_few : (i : ℕ) (ps : List Bytes) → length (positions f i ps) ≤ length ps
  unfolding positions
  positions_few i [] = omega arith
  positions_few i (p ∷ ps) = by_cases (f p) (positions_few (suc i) ps)
    where
      by_cases : (b : Bool) → length (positions f (suc i) ps) ≤ length ps → length (cond b (i ∷ positions f (suc i) ps) (positions f (suc i) ps)) ≤ suc (length ps)
      by_cases true h = omega arith
      by_cases false h = omega arith

  pub positions_climb : (m i : ℕ) (ps : List Bytes) → m < i → climbs m (positions f i ps) ≡ true
  unfolding positions climbs
  positions_climb m i [] h = refl
  positions_climb m i (p ∷ ps) h = by_cases (f p) (positions_climb i (suc i) ps (omega arith)) (positions_climb m (suc i) ps (omega arith))
    where
      by_cases : (b : Bool) → climbs i (positions f (suc i) ps) ≡ true → climbs m (positions f (suc i) ps) ≡ true → climbs m (cond b (i ∷ positions f (suc i) ps) (positions f (suc i) ps)) ≡ true
      by_cases true a c = rw (lt-ltb m i h, climbs) a
      by_cases false a c = c

  -- none before the first
  none_earlier : (m i : ℕ) (ps : List Bytes) → m < i → among (positions f i ps) m ≡ false
  unfolding positions
  none_earlier m i [] h = refl
  none_earlier m i (p ∷ ps) h = by_cases (f p) (none_earlier m (suc i) ps (omega arith))
    where
      by_cases : (b : Bool) → among (positions f (suc i) ps) m ≡ false → among (cond b (i ∷ positions f (suc i) ps) (positions f (suc i) ps)) m ≡ false
      by_cases true a = rw (ne_eqb m i (λ z. omega arith)) a
      by_cases false a = a

  -- a position is there exactly if its bill passes
  pub position_there : (j i : ℕ) (ps : List Bytes) → j < length ps → among (positions f i ps) (i + j) ≡ f (get_or ps j [])
  unfolding positions
  position_there j i [] h = absurd (omega arith)
  position_there zero i (p ∷ ps) h = rw (add-zero i) (by_cases (f p) (none_earlier i (suc i) ps (omega arith)))
    where
      by_cases : (b : Bool) → among (positions f (suc i) ps) i ≡ false → among (cond b (i ∷ positions f (suc i) ps) (positions f (suc i) ps)) i ≡ b
      by_cases true a = rw (eq-eqb i i refl)
      by_cases false a = a
  position_there (suc j) i (p ∷ ps) h = by_cases (f p) (ap (λ (m : ℕ). among (positions f (suc i) ps) m) later ∙ position_there j (suc i) ps (omega arith))
    where
      later : i + suc j ≡ suc i + j
      later = omega arith

      by_cases : (b : Bool) → among (positions f (suc i) ps) (i + suc j) ≡ f (get_or ps j []) → among (cond b (i ∷ positions f (suc i) ps) (positions f (suc i) ps)) (i + suc j) ≡ f (get_or ps j [])
      by_cases true a = rw (ne_eqb (i + suc j) i (λ z. omega arith)) a
      by_cases false a = a

  -- and every position is that of a bill
  pub position_of_bill : (m i : ℕ) (ps : List Bytes) → among (positions f i ps) m ≡ true → (i ≤ m) × (m < i + length ps)
  unfolding positions
  position_of_bill m i [] h = absurd (true≢false (sym h))
  position_of_bill m i (p ∷ ps) h = by_cases (f p) (position_of_bill m (suc i) ps) h
    where
      within : (among (positions f (suc i) ps) m ≡ true → (suc i ≤ m) × (m < suc i + length ps)) → among (positions f (suc i) ps) m ≡ true → (i ≤ m) × (m < i + suc (length ps))
      within ih a = let (low, top) = ih a in (omega arith, omega arith)

      here : (b : Bool) → eqb m i ≡ b → (among (positions f (suc i) ps) m ≡ true → (suc i ≤ m) × (m < suc i + length ps)) → (b || among (positions f (suc i) ps) m) ≡ true → (i ≤ m) × (m < i + suc (length ps))
      here true e ih a = let z = eqb-true m i e in (omega arith, omega arith)
      here false e ih a = within ih a

      by_cases : (b : Bool) → (among (positions f (suc i) ps) m ≡ true → (suc i ≤ m) × (m < suc i + length ps)) → among (cond b (i ∷ positions f (suc i) ps) (positions f (suc i) ps)) m ≡ true → (i ≤ m) × (m < i + suc (length ps))
      by_cases true ih a = here (eqb m i) refl ih a
      by_cases false ih a = within ih a

  -- what stands behind other bills has the positions behind theirs
  pub positions_behind : (i : ℕ) (ps qs : List Bytes) → positions f i (ps ++ qs) ≡ positions f i ps ++ positions f (i + length ps) qs
  unfolding positions
  positions_behind i [] qs = rw (add-zero i)
  positions_behind i (p ∷ ps) qs = by_cases (f p) (positions_behind (suc i) ps qs ∙ rw later)
    where
      later : suc i + length ps ≡ i + suc (length ps)
      later = omega arith

      by_cases : (b : Bool) → positions f (suc i) (ps ++ qs) ≡ positions f (suc i) ps ++ positions f (i + suc (length ps)) qs
          → cond b (i ∷ positions f (suc i) (ps ++ qs)) (positions f (suc i) (ps ++ qs)) ≡ cond b (i ∷ positions f (suc i) ps) (positions f (suc i) ps) ++ positions f (i + suc (length ps)) qs
      by_cases true a = ap (λ (l : List ℕ). i ∷ l) a
      by_cases false a = a

-- tests that say the same of each bill give the same positions
pub positions_alike : (f g : Bytes → Bool) → ((p : Bytes) → f p ≡ g p) → (i : ℕ) (ps : List Bytes) → positions f i ps ≡ positions g i ps
unfolding positions
positions_alike f g e i [] = refl
positions_alike f g e i (p ∷ ps) = rw (e p, positions_alike f g e (suc i) ps)

-- sums

module _ (f : Bytes → ℕ) where
  pub total_most : (m : ℕ) → ((p : Bytes) → f p ≤ m) → (ps : List Bytes) → total f ps ≤ m * length ps
  unfolding total
  total_most m h [] = omega arith
  total_most m h (p ∷ ps) = omega (arith, h p, total_most m h ps)

  pub total_apart : (ps qs : List Bytes) → total f (ps ++ qs) ≡ total f ps + total f qs
  unfolding total
  total_apart [] qs = omega arith
  total_apart (p ∷ ps) qs = omega (arith, total_apart ps qs)

pub total_alike : (f g : Bytes → ℕ) → ((p : Bytes) → f p ≡ g p) → (ps : List Bytes) → total f ps ≡ total g ps
unfolding total
total_alike f g e [] = refl
total_alike f g e (p ∷ ps) = rw (e p, total_alike f g e ps)
