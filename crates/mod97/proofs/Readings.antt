-- Up to 18 digits are read as one number, digit by digit. Assumes nothing.
use Prim.Native.Nat.{ℕ, ◌+◌, ◌*◌, ◌^◌, ◌≤◌, ◌<◌}
use native.Mathlib.Nat.{pow-le-pow_right}
use native.Mathlib.Numerals.{add-one}
use native.Mathlib.Omega.{arith}
use mathlib.Core.Bool.{true, and-eq-true_iff}
use mathlib.Core.Path.{◌≡◌, sym, ◌∙◌}
use lib.ListN.{length, get_or, drop}
use lib.Seq.{drop-cons}
use Rattle.sieve.specs.Bytes.{Bytes, every}
use Rattle.sieve.specs.Letters.{digit}
use Rattle.sieve.specs.Mod97.{value, numeral}
use Rattle.sieve.proofs.Folds.{step, end}
use Rattle.mod97.proofs.Remainders.{numbers}

-- the first i characters of s make n, and those left are digits
pub record Reading (s : Bytes) (i n : ℕ) : Type 0 where
  pub few : i ≤ length s
  pub small : n < 10 ^ i
  pub digits : every digit (drop i s) ≡ true
  pub whole : numeral 0 s ≡ numeral n (drop i s)

module _ {s : Bytes} {i n : ℕ} (so_far : Reading s i n) where
  -- the digits so far leave room for one more
  pub room : i < 18 → n < 10 ^ 17
  room h =
      let p : 10 ^ i ≤ 10 ^ 17 = pow-le-pow_right {n = 10} (omega arith) {i = i} {j = 17} (omega arith) in
      omega (arith, so_far.small)

  -- the next one is a digit, and so are those behind it
  pub next : i < length s → (digit (get_or s i 0) ≡ true) × (every digit (drop (i + 1) s) ≡ true)
  next h = rw add-one ((and-eq-true_iff _ _).0 (rw (drop-cons s i 0 h) at so_far.digits))

  pub one_read : (d : ℕ) → i < length s → d ≡ value (get_or s i 0) → d < 10 → Reading s (i + 1) (10 * n + d)
  one_read d h e most =
      let (reading-is, behind) = next h in
      record {
        few = omega arith;
        small = rw add-one (omega (arith, so_far.small));
        digits = behind;
        whole = so_far.whole ∙ (step numbers n s i h ∙ rw (reading-is, e, reading-is));
      }

  pub all_read : length s ≤ i → n ≡ numeral 0 s
  all_read h = sym (so_far.whole ∙ end numbers n s i h)
