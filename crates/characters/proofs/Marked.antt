-- The marks of bytes: how many bits they have, of parts that follow each other, and without those of the first bytes. Assumes nothing.
use Prim.Native.Nat.{ℕ, zero, suc, ◌+◌, ◌*◌, ◌^◌, ◌≤◌, ◌<◌}
use native.Mathlib.Nat.{add-zero, mul_assoc, mul_comm, mul-le-mul_right, mod-eq_of_lt, zero-add, zero-mul, one-mul, pow-suc, le_of_suc-le-suc}
use native.Mathlib.Omega.{arith}
use mathlib.Core.Bool.{Bool, true, false, cond}
use mathlib.Core.List.{[], ◌∷◌}
use mathlib.Core.Path.{◌≡◌, refl, sym, ap, ap₂, ◌∙◌}
use lib.Bits.{bit_and, and_block, and_mask, and_zero_r}
use lib.ListN.{length, take, drop, length-drop}
use lib.Pow.{pow_pos}
use lib.Seq.{drop-drop}
use Rattle.sieve.specs.Bytes.{Bytes}
use Rattle.sieve.specs.Latin.{in_one}
use Rattle.characters.specs.Marks.{marks_of}

a_bit : (b : Bool) → cond b 0 1 ≤ 1
a_bit true = omega arith
a_bit false = omega arith

-- they have no more bits than there are bytes
few : (t : Bytes) → marks_of t < 2 ^ length t
unfolding marks_of
few [] = omega arith
few (x ∷ s) = omega (arith, few s, a_bit (in_one x), pow-suc 2 (length s))

-- of two parts, one after the other
joined : (m n : ℕ) (t : Bytes) → m ≤ length t → marks_of (take (m + n) t) ≡ marks_of (take m t) + 2 ^ m * marks_of (take n (drop m t))
unfolding marks_of
joined zero n t h = rw (zero-add n) (sym (zero-add _ ∙ one-mul _))
joined (suc m) n [] h = absurd (omega arith)
joined (suc m) n (x ∷ s) h =
    let later = marks_of (take n (drop m s)) in
    let twice : 2 ^ suc m * later ≡ 2 * (2 ^ m * later) = rw (pow-suc 2 m, mul_comm (2 ^ m) 2, mul_assoc 2 (2 ^ m) later) refl in
    let size : suc m + n ≡ suc (m + n) = omega arith in
    rw size (omega (arith, joined m n s (le_of_suc-le-suc h), twice))

-- of k bytes from a place on
abbrev part : Bytes → ℕ → ℕ → ℕ
part s k from = marks_of (take k (drop from s))

-- of four parts of k bytes each
pub in_four : (k : ℕ) (s : Bytes) (at : ℕ) → at + 4 * k ≤ length s → part s (4 * k) at ≡ part s k at + 2 ^ k * (part s k (at + k) + 2 ^ k * (part s k (at + 2 * k) + 2 ^ k * part s k (at + 3 * k)))
in_four k s at h =
    let sizes : 4 * k ≡ k + (k + (k + k)) = omega arith in
    let second : at + k + k ≡ at + 2 * k = omega arith in
    let third : at + 2 * k + k ≡ at + 3 * k = omega arith in
    rw (sizes, after at (k + (k + k)) (omega arith), after (at + k) (k + k) (omega arith), second, after (at + 2 * k) k (omega arith), third)
  where
    after : (from n : ℕ) → from + (k + n) ≤ length s → part s (k + n) from ≡ part s k from + 2 ^ k * part s n (from + k)
    after from n fits = joined k n (drop from s) (omega (arith, length-drop from s)) ∙ rw (drop-drop k from s) refl

-- without those of the first k bytes, which are the lower bits
record Behind (k : ℕ) (t : Bytes) : Type 0 where
  pub front : ℕ
  pub less : front < 2 ^ k
  pub is : marks_of t ≡ marks_of (drop k t) * 2 ^ k + front

behind : (k : ℕ) (t : Bytes) → Behind k t
unfolding marks_of
behind zero t = record { front = 0; less = omega arith; is = omega arith }
behind (suc k) [] = record { front = 0; less = pow_pos (suc k); is = omega (arith, zero-mul (2 ^ suc k)) }
behind (suc k) (x ∷ s) =
    let b = behind k s in
    record {
      front = b.front * 2 + cond (in_one x) 0 1;
      less = omega (arith, b.less, a_bit (in_one x), pow-suc 2 k);
      is = rw (pow-suc 2 k) (omega (arith, ap (λ (n : ℕ). n * 2) b.is));
    }

-- kept by the bits of as many bytes, or more, behind them
pub kept : (k : ℕ) (t : Bytes) → length t ≡ 16 → bit_and (marks_of t) (0xFFFF * 2 ^ k) ≡ marks_of (drop k t) * 2 ^ k
kept k t size =
    let b = behind k t in
    let later = marks_of (drop k t) in
    let bits : marks_of t < 2 ^ 16 = rw size at (few t) in
    let fewer : later < 2 ^ 16 = omega (arith, b.is, mul-le-mul_right later (pow_pos k), mul_comm (2 ^ k) later) in
    let masked : bit_and later 0xFFFF ≡ later = and_mask later 16 ∙ mod-eq_of_lt fewer in
    ap₂ bit_and b.is (sym (add-zero (0xFFFF * 2 ^ k))) ∙ and_block k later 0xFFFF b.front 0 b.less (pow_pos k) ∙ rw (masked, and_zero_r b.front) (add-zero _)
