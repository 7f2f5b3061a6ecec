-- What a byte is to the steps, as cases to go by. Assumes nothing.
use Prim.Native.Nat.{ℕ}
use mathlib.Core.Bool.{Bool, true, false}
use mathlib.Core.List.{[], ◌∷◌}
use mathlib.Core.Path.{◌≡◌, refl, sym, subst}
use lib.Dec.{eqb}
use borrow.Author.Tests.{eqb-true}
use Rattle.sieve.specs.Bytes.{Bytes}
use Rattle.sieve.specs.Lines.{begins_lf}

-- a byte of a payload whose breaks are LF
pub data Sort : ℕ → Type 0 where
  feed : Sort 10
  blank : Sort 32
  other : {x : ℕ} → eqb x 10 ≡ false → eqb x 32 ≡ false → Sort x

pub sort_of : (x : ℕ) → Sort x
sort_of x = by_cases (eqb x 10) refl (eqb x 32) refl
  where
    by_cases : (a : Bool) → eqb x 10 ≡ a → (b : Bool) → eqb x 32 ≡ b → Sort x
    by_cases true e b f = subst Sort (sym (eqb-true x 10 e)) feed
    by_cases false e true f = subst Sort (sym (eqb-true x 32 f)) blank
    by_cases false e false f = other e f

-- a byte of any payload, and what stands behind it
pub data Opening : ℕ → Bytes → Type 0 where
  lone_lf : {s : Bytes} → Opening 10 s
  cr_lf : {s : Bytes} → Opening 13 (10 ∷ s)
  lone_cr : {s : Bytes} → begins_lf s ≡ false → Opening 13 s
  space : {s : Bytes} → Opening 32 s
  firm : {x : ℕ} {s : Bytes} → eqb x 10 ≡ false → eqb x 13 ≡ false → eqb x 32 ≡ false → Opening x s

pub opening_of : (x : ℕ) (s : Bytes) → Opening x s
opening_of x s = by_cases (sort_of x) (eqb x 13) refl
  where
    after_cr : (s : Bytes) → Opening 13 s
    after_cr [] = lone_cr refl
    after_cr (y ∷ s) = at (eqb y 10) refl
      where
        at : (b : Bool) → eqb y 10 ≡ b → Opening 13 (y ∷ s)
        at true e = subst (λ (z : ℕ). Opening 13 (z ∷ s)) (sym (eqb-true y 10 e)) cr_lf
        at false e = lone_cr e

    by_cases : {x : ℕ} → Sort x → (b : Bool) → eqb x 13 ≡ b → Opening x s
    by_cases feed b e = lone_lf
    by_cases blank b e = space
    by_cases {x} (other l p) true e = subst (λ (z : ℕ). Opening z s) (sym (eqb-true x 13 e)) (after_cr s)
    by_cases (other l p) false e = firm l e p
