-- The row of umlauts and accents at a place, one character at a time. Assumes nothing.
use Prim.Native.Nat.{ℕ, suc, ◌+◌, ◌≤◌, ◌<◌}
use native.Mathlib.Omega.{arith}
use mathlib.Core.Bool.{Bool, true, false, ◌&&◌, and-false, or-true, and-eq-true_iff}
use mathlib.Core.List.{[], ◌∷◌, ◌++◌}
use mathlib.Core.Path.{◌≡◌, refl, ap, ◌∙◌}
use lib.ListN.{length, get_or, drop, drop_of_length-le}
use lib.Dec.{ltb, leb}
use borrow.Author.Tests.{ltb-true, ltb-false, lt-leb}
use Rattle.sieve.specs.Bytes.{Bytes, within}
use Rattle.sieve.specs.Latin.{in_one, latin}
use Rattle.sieve.proofs.Bounds.{is_within}
use Rattle.runs.proofs.ByteByByte.{next}
use Rattle.characters.specs.Runs.{accents}

-- C3, C4 or C5 then 80 to BF
abbrev pub accent : ℕ → ℕ → Bool
accent x y = within 0xC3 0xC5 x && within 0x80 0xBF y

-- two bytes, and those behind them
pub accent_first : (two t : Bytes) → length two ≡ 2 → accent (get_or two 0 0) (get_or two 1 0) ≡ true → accents (two ++ t) ≡ suc (accents t)
unfolding accents
accent_first [] t size e = absurd (omega arith)
accent_first (x ∷ []) t size e = absurd (omega arith)
accent_first (x ∷ y ∷ []) t size e = rw e
accent_first (x ∷ y ∷ z ∷ two) t size e = absurd (omega arith)

pub other_first : (two t : Bytes) → length two ≡ 2 → accent (get_or two 0 0) (get_or two 1 0) ≡ false → accents (two ++ t) ≡ 0
unfolding accents
other_first [] t size e = absurd (omega arith)
other_first (x ∷ []) t size e = absurd (omega arith)
other_first (x ∷ y ∷ []) t size e = rw e
other_first (x ∷ y ∷ z ∷ two) t size e = absurd (omega arith)

-- and fewer than two bytes
pub too_short : (s : Bytes) → length s < 2 → accents s ≡ 0
unfolding accents
too_short [] h = refl
too_short (x ∷ []) h = refl
too_short (x ∷ y ∷ s) h = absurd (omega arith)

module _ (s : Bytes) (at : ℕ) where
  two : at + 1 < length s → drop at s ≡ get_or s at 0 ∷ get_or s (at + 1) 0 ∷ drop (at + 2) s
  two h =
      let q : at + 1 + 1 ≡ at + 2 = omega arith in
      next s at (omega arith) ∙ ap (λ (t : Bytes). get_or s at 0 ∷ t) (next s (at + 1) h ∙ ap (λ (n : ℕ). get_or s (at + 1) 0 ∷ drop n s) q)

  pub one_accent : at + 1 < length s → accent (get_or s at 0) (get_or s (at + 1) 0) ≡ true → accents (drop at s) ≡ suc (accents (drop (at + 2) s))
  unfolding accents
  one_accent h e = rw (two h, e)

  pub no_accent : at + 1 < length s → accent (get_or s at 0) (get_or s (at + 1) 0) ≡ false → accents (drop at s) ≡ 0
  unfolding accents
  no_accent h e = rw (two h, e)

  pub too_few : length s ≤ at + 1 → accents (drop at s) ≡ 0
  unfolding accents
  too_few h = by_cases (ltb at (length s)) refl
    where
      by_cases : (b : Bool) → ltb at (length s) ≡ b → accents (drop at s) ≡ 0
      by_cases true e = rw (next s at (ltb-true _ _ e), drop_of_length-le s h)
      by_cases false e = rw (drop_of_length-le s (ltb-false _ _ e))

  -- a row that is not empty, by its first character
  pub row_goes_on : (n : ℕ) → accents (drop at s) ≡ suc n → (at + 1 < length s) × (accent (get_or s at 0) (get_or s (at + 1) 0) ≡ true) × (accents (drop (at + 2) s) ≡ n)
  row_goes_on n e = by_cases (ltb (at + 1) (length s)) (accent (get_or s at 0) (get_or s (at + 1) 0)) refl refl
    where
      by_cases : (b d : Bool) → ltb (at + 1) (length s) ≡ b → accent (get_or s at 0) (get_or s (at + 1) 0) ≡ d → (at + 1 < length s) × (accent (get_or s at 0) (get_or s (at + 1) 0) ≡ true) × (accents (drop (at + 2) s) ≡ n)
      by_cases true true p q = let h = ltb-true (at + 1) (length s) p in (h, q, omega (arith, one_accent h q))
      by_cases true false p q = absurd (omega (arith, no_accent (ltb-true (at + 1) (length s) p) q))
      by_cases false d p q = absurd (omega (arith, too_few (ltb-false (at + 1) (length s) p)))

  -- it is a character of two bytes
  pub accent_width : at + 1 < length s → accent (get_or s at 0) (get_or s (at + 1) 0) ≡ true → latin (drop at s) ≡ 2
  unfolding latin
  accent_width h e =
      let x = get_or s at 0 in
      let (lead, follows) = (and-eq-true_iff (within 0xC3 0xC5 x) (within 0x80 0xBF (get_or s (at + 1) 0))).0 e in
      let (low, high) = is_within 0xC3 0xC5 x lead in
      let one : in_one x ≡ false = rw (lt-leb x 0x7E (omega arith)) (and-false (leb 0x20 x)) in
      rw (two h, one, e, or-true)
