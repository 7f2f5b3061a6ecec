-- A row as a line: behind others its characters are laid as they are now, and only a colon or hyphen that begins the line changes. Assumes nothing.
use Prim.Native.Nat.{ℕ, zero, suc, ◌+◌, ◌<◌}
use native.Mathlib.Omega.{arith}
use mathlib.Core.Bool.{Bool, true, false, true≢false, cond, ◌||◌, not, or-false}
use mathlib.Core.List.{[], ◌∷◌}
use mathlib.Core.Path.{◌≡◌, refl, sym, ap, ◌∙◌}
use lib.Dec.{eqb}
use lib.ListN.{length, take, get_or, set, length-set}
use Rattle.sieve.specs.Bytes.{Bytes}
use Rattle.swift.specs.declared.Row.{Row}
use Rattle.swift.specs.Letters.{in_x, barred, full_stop, replaced, laid_byte, laid_from, laid_line, replaced_from, replaced_in_line}
use Rattle.swift.specs.Rowed.{RowFits, RowHolds, IsLineBegun}

-- a character that is laid as a colon or hyphen is one, and is replaced where it begins a line
barred_goes : (x : ℕ) → barred (laid_byte false x) ≡ true → (replaced false x ≡ false) × (replaced true x ≡ true)
unfolding replaced barred
barred_goes x = by_cases (in_x x)
  where
    by_cases : (a : Bool) → barred (cond (not a || false) full_stop x) ≡ true → ((not a || false) ≡ false) × ((not a || barred x) ≡ true)
    by_cases true e = (refl, e)
    by_cases false e = absurd (true≢false (sym e))

-- another one is laid alike everywhere
other_stays : (x : ℕ) → barred (laid_byte false x) ≡ false → replaced true x ≡ replaced false x
unfolding replaced barred
other_stays x = by_cases (in_x x)
  where
    by_cases : (a : Bool) → barred (cond (not a || false) full_stop x) ≡ false → (not a || barred x) ≡ (not a || false)
    by_cases true e = e
    by_cases false e = refl

-- the test of a colon and a hyphen
tested : (x : ℕ) → barred x ≡ (eqb x 58 || eqb x 45)
unfolding barred
tested x = ap (λ (b : Bool). eqb x 58 || b) (or-false (eqb x 45))

-- the first byte that a row with characters holds is that of the first of them, and another may be put in its place
first_held : (n : ℕ) (bytes : Bytes) (y : ℕ) (s : Bytes) → take n bytes ≡ y ∷ s → (get_or bytes 0 0 ≡ y) × ((v : ℕ) → take n (set bytes 0 v) ≡ v ∷ s)
first_held zero bytes y s e = absurd (omega (arith, ap length e))
first_held (suc n) [] y s e = absurd (omega (arith, ap length e))
first_held (suc n) (z ∷ bytes) y s e = let rest : take n bytes ≡ s = cc in (cc, λ v. ap (λ (r : Bytes). v ∷ r) rest)

module _ (row : Row) (ok : RowFits row) where
  abbrev head : ℕ
  head = get_or row.bytes 0 0

  -- a colon or hyphen begins it
  pub stopped : 0 < row.length → (eqb head 58 || eqb head 45) ≡ true → IsLineBegun row (record { bytes = set row.bytes 0 full_stop; length = row.length; replaced = row.replaced + 1 })
  unfolding laid_from replaced_from
  stopped some t = record { room = length-set row.bytes 0 full_stop ∙ ok.room; size = refl; fewer = omega arith; laid = laid; count = count }
    where
      laid : (s : Bytes) → RowHolds row s → take row.length (set row.bytes 0 full_stop) ≡ laid_line s
      laid [] h = absurd (omega (arith, h.size))
      laid (x ∷ s) h =
          let (held_first, put) = first_held row.length row.bytes (laid_byte false x) (laid_from false s) h.laid in
          rw (barred_goes x (rw held_first at (tested head ∙ t))).1 (put full_stop)

      count : (s : Bytes) → RowHolds row s → row.replaced + 1 ≡ replaced_in_line s
      count [] h = absurd (omega (arith, h.size))
      count (x ∷ s) h =
          let (held_first, _) = first_held row.length row.bytes (laid_byte false x) (laid_from false s) h.laid in
          let (stays, goes) = barred_goes x (rw held_first at (tested head ∙ t)) in
          rw goes (omega (arith, rw stays at h.count))

  -- neither does
  pub kept_as_is : 0 < row.length → (eqb head 58 || eqb head 45) ≡ false → IsLineBegun row row
  unfolding laid_from replaced_from
  kept_as_is some t = record { room = ok.room; size = refl; fewer = omega arith; laid = laid; count = count }
    where
      laid : (s : Bytes) → RowHolds row s → take row.length row.bytes ≡ laid_line s
      laid [] h = absurd (omega (arith, h.size))
      laid (x ∷ s) h =
          let (held_first, _) = first_held row.length row.bytes (laid_byte false x) (laid_from false s) h.laid in
          rw (other_stays x (rw held_first at (tested head ∙ t))) h.laid

      count : (s : Bytes) → RowHolds row s → row.replaced ≡ replaced_in_line s
      count [] h = absurd (omega (arith, h.size))
      count (x ∷ s) h =
          let (held_first, _) = first_held row.length row.bytes (laid_byte false x) (laid_from false s) h.laid in
          rw (other_stays x (rw held_first at (tested head ∙ t))) h.count
