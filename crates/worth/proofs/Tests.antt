-- One of two tests, and a test that never passes. Assumes nothing.
use mathlib.Core.Bool.{Bool, true, false, ◌||◌}
use mathlib.Core.Path.{◌≡◌, refl}

-- one of two tests
pub one_of : {P : Type 0} (a b : Bool) → (a || b) ≡ true → (a ≡ true → P) → (b ≡ true → P) → P
one_of true b e f g = f refl
one_of false b e f g = g e

-- of which the first fails
pub other : (a b : Bool) → a ≡ false → a || b ≡ b
other a b e = rw e

-- a test that never passes
pub never : (a : Bool) → (a ≡ true → ⊥) → a ≡ false
never true f = absurd (f refl)
never false f = refl
