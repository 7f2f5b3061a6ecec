-- The lowest bit of a number, and what is left without it. Assumes nothing.
use Prim.Native.Nat.{ℕ, zero, suc, ◌+◌, ◌-◌, ◌*◌, ◌/◌, ◌%◌, ◌^◌, ◌<◌}
use native.Mathlib.Nat.{add-zero, mul-one, le_of_suc-le-suc, pow-suc}
use native.Mathlib.Omega.{arith}
use mathlib.Core.Path.{◌≡◌, refl, sym, ap, ap₂, ◌∙◌}
use lib.Bits.{bit_and, and_block, and_step, and_self, shifted_half, shifted_even}
use lib.Count.{count_trailing_zeros}
use lib.Pow.{pow_pos, pow-sub-lt}
use Rattle.characters.specs.Marks.{without_first}

-- the lowest bit of an odd number that is shifted
pub lowest : (d m i : ℕ) → m % 2 ≡ 1 → i < d → count_trailing_zeros d (m * 2 ^ i) ≡ i
unfolding count_trailing_zeros
lowest zero m i o h = absurd (omega arith)
lowest (suc d) m zero o h = rw (mul-one, o)
lowest (suc d) m (suc i) o h = rw (shifted_even, shifted_half) (ap suc (lowest d m i o (le_of_suc-le-suc h)))

odd : (x : ℕ) → (x * 2 + 1) % 2 ≡ 1
odd x = omega arith

-- without it
pub without : (x i : ℕ) → i < 32 → without_first ((x * 2 + 1) * 2 ^ i) ≡ x * 2 * 2 ^ i
without x i h = rw (lowest 32 (x * 2 + 1) i (odd x) h) (omega arith)

cleared : (x i : ℕ) → bit_and ((x * 2 + 1) * 2 ^ i) ((x * 2 + 1) * 2 ^ i - 1) ≡ x * 2 * 2 ^ i
cleared x i =
    let p = pow_pos i in
    let left : (x * 2 + 1) * 2 ^ i ≡ (x * 2 + 1) * 2 ^ i + 0 = omega arith in
    let right : (x * 2 + 1) * 2 ^ i - 1 ≡ x * 2 * 2 ^ i + (2 ^ i - 1) = omega arith in
    let half : (x * 2 + 1) / 2 ≡ x = omega arith in
    let even : x * 2 / 2 ≡ x = omega arith in
    let no : x * 2 % 2 ≡ 0 = omega arith in
    let above : bit_and (x * 2 + 1) (x * 2) ≡ x * 2 = and_step (x * 2 + 1) (x * 2) ∙ rw (half, even, odd x, no, and_self x) (add-zero _) in
    ap₂ bit_and left right ∙ and_block i (x * 2 + 1) (x * 2) 0 (2 ^ i - 1) p (pow-sub-lt i (omega arith)) ∙ rw above (add-zero _)

-- a number that is not 0, by its lowest bit
record Lowest (d m : ℕ) : Type 0 where
  place : ℕ
  above : ℕ
  within : place < d
  is : m ≡ (above * 2 + 1) * 2 ^ place

lowest_of : (d m : ℕ) → 0 < m → m < 2 ^ d → Lowest d m
lowest_of zero m some few = absurd (omega arith)
lowest_of (suc d) m some few = along (m % 2) refl (lowest_of d (m / 2))
  where
    along : (b : ℕ) → m % 2 ≡ b → (0 < m / 2 → m / 2 < 2 ^ d → Lowest d (m / 2)) → Lowest (suc d) m
    along zero e half_of_lem =
        let half = half_of_lem (omega arith) (omega (arith, pow-suc 2 d)) in
        record { place = suc half.place; above = half.above; within = omega (arith, half.within); is = rw (pow-suc 2 half.place) (omega (arith, half.is)) }
    along (suc b) e half_of_lem = record { place = 0; above = m / 2; within = omega arith; is = omega arith }

-- the code's way to leave it out
pub left_out : (m : ℕ) → 0 < m → m < 2 ^ 32 → bit_and m (m - 1) ≡ without_first m
left_out m some few =
    let l = lowest_of 32 m some few in
    ap (λ (n : ℕ). bit_and n (n - 1)) l.is ∙ cleared l.above l.place ∙ sym (ap without_first l.is ∙ without l.above l.place l.within)
