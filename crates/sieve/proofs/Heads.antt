-- What the first byte of some bytes can be. Assumes nothing.
use Prim.Native.Nat.{ℕ}
use mathlib.Core.Bool.{Bool, true, false, false≢true, ◌&&◌}
use mathlib.Core.List.{[], ◌∷◌}
use mathlib.Core.Path.{◌≡◌, refl, sym, subst, subst₂}
use lib.Dec.{eqb}
use borrow.Author.Tests.{eqb-true}
use Rattle.sieve.specs.Lines.{begins_lf}
use Rattle.sieve.specs.Bytes.{Bytes}

-- LF, the CR of a CR LF, or a byte that begins no break
pub data Head : ℕ → Bytes → Type 0 where
  lf : {s : Bytes} → Head 10 s
  crlf : {s : Bytes} → Head 13 (10 ∷ s)
  other : {x : ℕ} {s : Bytes} → eqb x 10 ≡ false → (eqb x 13 && begins_lf s) ≡ false → Head x s

pub head : (x : ℕ) (s : Bytes) → Head x s
head x s = by_cases (eqb x 10) (eqb x 13 && begins_lf s) refl refl
  where
    cr : (s : Bytes) (a : Bool) → eqb x 13 ≡ a → (a && begins_lf s) ≡ true → Head x s
    cr s false e h = absurd (false≢true h)
    cr [] true e h = absurd (false≢true h)
    cr (y ∷ s) true e h = subst₂ (λ (a b : ℕ). Head a (b ∷ s)) (sym (eqb-true x 13 e)) (sym (eqb-true y 10 h)) crlf

    by_cases : (a b : Bool) → eqb x 10 ≡ a → (eqb x 13 && begins_lf s) ≡ b → Head x s
    by_cases true b e h = subst (λ (a : ℕ). Head a s) (sym (eqb-true x 10 e)) lf
    by_cases false true e h = cr s (eqb x 13) refl h
    by_cases false false e h = other e h
