-- A fixed text and a break in front of bytes: byte by byte, as the code finds them, and what the bytes are then; and what ends a line. Assumes nothing.
use Prim.Native.Nat.{ℕ, ◌+◌, ◌≤◌, ◌<◌}
use native.Mathlib.Nat.{add-zero}
use native.Mathlib.Numerals.{add-one}
use native.Mathlib.Omega.{arith}
use mathlib.Core.Bool.{Bool, true, false, cond, ◌&&◌, ◌||◌, not}
use mathlib.Core.List.{[], ◌∷◌, ◌++◌}
use mathlib.Core.Path.{◌≡◌, refl, subst}
use lib.Dec.{eqb}
use lib.ListN.{length, get_or, drop, drop_of_length-le, get_or-eq_default}
use lib.Seq.{drop-cons, get_or-drop}
use borrow.Author.Tests.{eqb-true}
use Rattle.sieve.specs.declared.Break.{Break}
use Rattle.sieve.specs.declared.Break.TheVariants.{Lf, CrLf}
use Rattle.sieve.specs.Bytes.{Bytes}
use Rattle.sieve.specs.Characters.{break_width}
use Rattle.sieve.specs.Lines.{break_bytes}
use Rattle.sieve.proofs.Cutting.{break_length}
use Rattle.sieve.proofs.Heads.{Head, lf, crlf, other, head}
use Rattle.glance.specs.FixedLines.{behind_break, gone_past, ends_with}

next : (s : Bytes) (at : ℕ) → at < length s → drop at s ≡ get_or s at 0 ∷ drop (at + 1) s
next s at h = rw (add-one, drop-cons s at 0)

module _ (s : Bytes) (at : ℕ) where
  -- the text's next byte, and that of the bytes
  pub step : (t : Bytes) (i : ℕ) → i < length t → at < length s → gone_past (drop i t) at (drop at s) ≡ cond (eqb (get_or s at 0) (get_or t i 0)) (gone_past (drop (i + 1) t) (at + 1) (drop (at + 1) s)) 0
  unfolding gone_past
  step t i h k = rw (next s at k, next t i h)

  -- behind the text, the tests for a break
  pub then_break : (t : Bytes) (i : ℕ) → length t ≤ i → gone_past (drop i t) at (drop at s) ≡ cond (eqb (get_or s at 0) 10) (at + 1) (cond (eqb (get_or s at 0) 13 && eqb (get_or s (at + 1) 0) 10) (at + 2) 0)
  unfolding gone_past behind_break
  then_break t i h = rw (drop_of_length-le t h, get_or-drop at s 0 0, get_or-drop at s 1 0, add-zero)

-- whether a line ends at a place, by the two bytes there
module _ (s : Bytes) (at : ℕ) (more : Bool) where
  pub ends_last : length s ≤ at → ends_with (drop at s) more ≡ not more
  unfolding ends_with
  ends_last h = rw (drop_of_length-le s h)

  pub ends_by_break : at < length s → ends_with (drop at s) more ≡ eqb (get_or s at 0) 10 || (eqb (get_or s at 0) 13 && eqb (get_or s (at + 1) 0) 10)
  unfolding ends_with break_width
  ends_by_break h = rw (next s at h, get_or-drop (at + 1) s 0 0, add-zero) (either (eqb (get_or s at 0) 10) (eqb (get_or s at 0) 13 && eqb (get_or s (at + 1) 0) 10))
    where
      either : (a b : Bool) → not (eqb (cond a 1 (cond b 2 0)) 0) ≡ a || b
      either true b = refl
      either false true = refl
      either false false = refl

-- behind the last byte stands no LF
pub no_second : (s : Bytes) (at : ℕ) (b : Bool) → length s ≤ at + 1 → (b && eqb (get_or s (at + 1) 0) 10) ≡ false
no_second s at false h = refl
no_second s at true h = rw (get_or-eq_default s 0 h)

-- a text and a break stand in front, and the place is behind them; or it is 0
pub data Front (t : Bytes) (at : ℕ) : Bytes → ℕ → Type 0 where
  stands : (k : Break) (u : Bytes) → Front t at (t ++ (break_bytes k ++ u)) (at + length t + length (break_bytes k))
  fails : (s : Bytes) → Front t at s 0

pub front : (t : Bytes) (at : ℕ) (s : Bytes) → Front t at s (gone_past t at s)
unfolding gone_past behind_break
front [] at [] = fails []
front [] at (x ∷ s) = by_cases (head x s)
  where
    by_cases : {x : ℕ} {s : Bytes} → Head x s → Front [] at (x ∷ s) (behind_break at (x ∷ s))
    by_cases (lf {s}) = subst (Front [] at (10 ∷ s)) (omega arith) (stands Lf s)
    by_cases (crlf {s}) = subst (Front [] at (13 ∷ 10 ∷ s)) (omega arith) (stands CrLf s)
    by_cases {x} {s} (other e f) = rw (e, f) (fails (x ∷ s))
front (x ∷ t) at [] = fails []
front (x ∷ t) at (y ∷ s) = by_cases (eqb y x) refl (front t (at + 1) s)
  where
    by_cases : (b : Bool) → eqb y x ≡ b → {s : Bytes} {r : ℕ} → Front t (at + 1) s r → Front (x ∷ t) at (y ∷ s) (cond b r 0)
    by_cases false e {s} f = fails (y ∷ s)
    by_cases true e (fails s) = fails (y ∷ s)
    by_cases true e (stands k u) = rw (eqb-true y x e) (subst (Front (x ∷ t) at (x ∷ (t ++ (break_bytes k ++ u)))) (omega arith) (stands k u))

-- the place is not far: a break is of one byte or two
pub not_far : (t : Bytes) (at : ℕ) (s : Bytes) → gone_past t at s ≤ at + length t + 2
not_far t at s = by_cases (front t at s)
  where
    by_cases : {s : Bytes} {r : ℕ} → Front t at s r → r ≤ at + length t + 2
    by_cases (stands k u) = omega (arith, break_length k)
    by_cases (fails s) = omega arith
