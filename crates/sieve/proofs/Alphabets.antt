-- Digits and capitals are those that are written out, and no other number is one. Assumes nothing.
use Prim.Native.Nat.{ℕ, zero, suc, ◌+◌, ◌≤◌, ◌<◌}
use native.Mathlib.Omega.{arith}
use mathlib.Core.Bool.{Bool, true, false, ◌||◌, false≢true, and-eq-true_iff, or_assoc}
use mathlib.Core.List.{[], ◌∷◌, ◌++◌}
use mathlib.Core.Logic.{◌↔◌}
use mathlib.Core.Path.{◌≡◌, refl, sym, ◌∙◌, ap₂}
use lib.Dec.{eqb}
use borrow.Author.Tests.{eqb-true, eqb-false, le-leb}
use Rattle.sieve.specs.Bytes.{Bytes, ascii, within}
use Rattle.sieve.specs.Letters.{digit, capital, digit_or_capital}
use Rattle.sieve.proofs.Bounds.{is_within}

-- a byte is one of these
abbrev pub among : Bytes → ℕ → Bool
among [] x = false
among (y ∷ s) x = eqb x y || among s x

abbrev pub ten_digits : Bytes
ten_digits = ascii "0123456789"

abbrev pub capitals : Bytes
capitals = ascii "ABCDEFGHIJKLMNOPQRSTUVWXYZ"

-- n bytes, one after another
abbrev pub run : ℕ → ℕ → Bytes
run lo zero = []
run lo (suc n) = lo ∷ run (suc lo) n

in_run : (lo n x : ℕ) → (among (run lo n) x ≡ true) ↔ ((lo ≤ x) × (x < lo + n))
in_run lo zero x = (λ h. absurd (false≢true h), λ h. absurd (omega arith))
in_run lo (suc n) x = by_cases (eqb x lo) refl (in_run (suc lo) n x)
  where
    by_cases : (b : Bool) → eqb x lo ≡ b → (among (run (suc lo) n) x ≡ true) ↔ ((suc lo ≤ x) × (x < suc lo + n)) → ((b || among (run (suc lo) n) x) ≡ true) ↔ ((lo ≤ x) × (x < lo + suc n))
    by_cases true e more = let s = eqb-true x lo e in (λ h. (omega arith, omega arith), λ h. refl)
    by_cases false e more = (λ h. let i = more.0 h in (omega arith, omega arith), λ h. more.1 (omega (arith, eqb-false x lo e), omega arith))

-- tests that pass alike are equal
pub alike : (a b : Bool) → (a ≡ true) ↔ (b ≡ true) → a ≡ b
alike true b h = sym (h.0 refl)
alike false true h = h.1 refl
alike false false h = refl

-- what lies within two bounds is one of the run between them
pub within_run : (lo n x : ℕ) → within lo (lo + n) x ≡ among (run lo (suc n)) x
within_run lo n x =
    alike (within lo (lo + n) x) (among (run lo (suc n)) x) (
      λ h. let b = is_within lo (lo + n) x h in (in_run lo (suc n) x).1 (omega arith, omega arith),
      λ h. let b = (in_run lo (suc n) x).0 h in (and-eq-true_iff _ _).1 (le-leb lo x (omega arith), le-leb x (lo + n) (omega arith)),
    )

pub digit_among : (x : ℕ) → digit x ≡ among ten_digits x
digit_among = within_run 48 9

pub capital_among : (x : ℕ) → capital x ≡ among capitals x
capital_among = within_run 65 25

among_both : (s t : Bytes) (x : ℕ) → among (s ++ t) x ≡ among s x || among t x
among_both [] t x = refl
among_both (y ∷ s) t x = rw (among_both s t x) (sym (or_assoc (eqb x y) (among s x) (among t x)))

pub digit_or_capital_among : (x : ℕ) → digit_or_capital x ≡ among (ten_digits ++ capitals) x
digit_or_capital_among x = ap₂ ◌||◌ (digit_among x) (capital_among x) ∙ sym (among_both ten_digits capitals x)
