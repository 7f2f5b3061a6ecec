-- An optional value that code answers so is that of the logic. Assumes nothing.
use Prim.Native.Nat.{ℕ}
use native.Mathlib.Omega.{arith}
use mathlib.Core.Option.{Option, some, none}
use mathlib.Core.Path.{◌≡◌, refl, ap}
use Rattle.std.specs.Prelude.{Some, None}
use Rattle.sieve.specs.Options.{answered}

pub answered_some : {A : Type 0} (o : Option A) (x : A) → Some x ≡ answered o → o ≡ some x
answered_some none x e = let z : ◌≡◌ {A = ℕ} 0 1 = cc in absurd (omega arith)
answered_some (some y) x e = let q : y ≡ x = cc in ap some q

pub answered_none : {A : Type 0} (o : Option A) → None ≡ answered o → o ≡ none
answered_none none e = refl
answered_none (some y) e = let z : ◌≡◌ {A = ℕ} 0 1 = cc in absurd (omega arith)
