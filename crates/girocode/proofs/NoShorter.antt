-- No shorter text stands for a value than its shortest one, and that one does. Assumes nothing.
use Prim.Native.Nat.{ℕ, ◌+◌, ◌-◌, ◌*◌, ◌/◌, ◌%◌, ◌^◌, ◌≤◌, ◌<◌}
use native.Mathlib.Nat.{lt_of_mul-lt-mul_right, mul_assoc, mul-mod_right, zero-add}
use native.Mathlib.Omega.{arith}
use mathlib.Core.Bool.{Bool, true, false, cond}
use mathlib.Core.List.{[], ◌∷◌, ◌++◌}
use mathlib.Core.Logic.{◌≢◌}
use mathlib.Core.Path.{◌≡◌, refl, ◌∙◌, ap}
use lib.Dec.{eqb, lit≤}
use lib.ListN.{length, length-append}
use lib.Pow.{pow-add}
use borrow.Author.Tests.{eqb-true, eqb-false, eq-eqb}
use Rattle.sieve.specs.Bytes.{Bytes, ascii, every}
use Rattle.sieve.specs.Decimal.{digit_byte}
use Rattle.sieve.specs.Letters.{digit}
use Rattle.sieve.specs.Mod97.{numeral}
use Rattle.sieve.proofs.Bounds.{case_at_most}
use Rattle.sieve.proofs.Decimals.{digit_onto, digit_byte_lem, number_after, number_below, no_more_digits}
use Rattle.girocode.specs.Limits.{euro}
use Rattle.girocode.specs.Shortest.{behind, shortest, Ending, no_point, point, StandsFor}
use Rattle.girocode.proofs.Amounts.{euros, euros_written, euros_read, point_and_one, point_and_two}

-- the digits w and f have the value of n cents
abbrev Worth : ℕ → Bytes → Bytes → Type 0
Worth n w f = 100 * numeral 0 (w ++ f) ≡ n * 10 ^ length f

-- whole euros have at least as many digits as the shortest text has

read_below : (w f : Bytes) → every digit w ≡ true → every digit f ≡ true → numeral 0 (w ++ f) < 10 ^ length w * 10 ^ length f
read_below w f h g =
    rw (number_after 0 w f, ← pow-add 10 (length w) (length f)) (number_below f (numeral 0 w) (length w) g (rw zero-add at (number_below w 0 0 h (lit≤ tt))))

value_below : (n : ℕ) (w f : Bytes) → every digit w ≡ true → every digit f ≡ true → Worth n w f → n < 100 * 10 ^ length w
value_below n w f h g v =
    let p = 10 ^ length f in
    let q = 10 ^ length w in
    let less : n * p < 100 * (q * p) = omega (arith, read_below w f h g) in
    lt_of_mul-lt-mul_right p (rw (mul_assoc 100 q p) less)

whole_enough : (n : ℕ) (w f : Bytes) → every digit w ≡ true → 1 ≤ length w → every digit f ≡ true → Worth n w f → length (euros (n / 100)) ≤ length w
whole_enough n [] f h some g v = absurd (omega arith)
whole_enough n (x ∷ w) f h some g v = no_more_digits 9 (length w) (n / 100) (omega (arith, value_below n (x ∷ w) f h g v))

-- and what stands behind them at least as many bytes

behind_cases : (a b : Bool) (d e : ℕ) → length (cond a [] (46 ∷ d ∷ cond b [] (e ∷ []))) ≡ cond a 0 (cond b 2 3)
behind_cases true b d e = refl
behind_cases false true d e = refl
behind_cases false false d e = refl

module _ (c : ℕ) where
  behind_length : length (behind c) ≡ cond (eqb c 0) 0 (cond (eqb (c % 10) 0) 2 3)
  behind_length = behind_cases (eqb c 0) (eqb (c % 10) 0) (digit_byte (c / 10)) (digit_byte (c % 10))

  nothing_behind : c ≡ 0 → length (behind c) ≤ 0
  nothing_behind h = rw (behind_length, eq-eqb c 0 h) (lit≤ tt)

  two_behind : c % 10 ≡ 0 → length (behind c) ≤ 2
  two_behind h = rw (behind_length, eq-eqb (c % 10) 0 h) (case_at_most 2 (eqb c 0) (λ e. lit≤ tt) (lit≤ tt))

  three_behind : length (behind c) ≤ 3
  three_behind = rw behind_length (case_at_most 3 (eqb c 0) (λ e. lit≤ tt) (case_at_most 3 (eqb (c % 10) 0) (λ e. lit≤ tt) (lit≤ tt)))

behind_enough : (n : ℕ) (w : Bytes) {f e : Bytes} → Ending f e → Worth n w f → length (behind (n % 100)) ≤ length e
behind_enough n w no_point v = nothing_behind (n % 100) (omega arith)
behind_enough n w (point [] h) v = omega (arith, nothing_behind (n % 100) (omega arith))
behind_enough n w (point (x ∷ []) h) v =
    let k = numeral 0 (w ++ (x ∷ [])) - 10 * (n / 100) in
    let tens : n % 100 ≡ 10 * k = omega arith in
    two_behind (n % 100) (ap (λ c. c % 10) tens ∙ mul-mod_right 10 k)
behind_enough n w (point (x ∷ y ∷ f) h) v = omega (arith, three_behind (n % 100))

-- so no text that stands for a value is shorter

ending_digits : {f e : Bytes} → Ending f e → every digit f ≡ true
ending_digits no_point = refl
ending_digits (point f h) = h

pub no_shorter : (n : ℕ) (s : Bytes) → StandsFor n s → length (shortest n) ≤ length s
unfolding shortest
no_shorter n s x =
    omega (
      arith,
      ap length x.text,
      length-append x.whole x.ending,
      length-append (euros (n / 100)) (behind (n % 100)),
      whole_enough n x.whole x.fraction x.whole_digits x.some (ending_digits x.ends) x.value,
      behind_enough n x.whole x.ends x.value,
    )

-- the shortest text stands for its value

module _ (n : ℕ) (few : n ≤ 99999999999) where
  abbrev w : Bytes
  w = euros (n / 100)

  abbrev c : ℕ
  c = n % 100

  -- digits behind whole euros are read on from them
  read_on : (f : Bytes) → numeral 0 (w ++ f) ≡ numeral (n / 100) f
  read_on f = number_after 0 w f ∙ ap (λ m. numeral m f) (euros_read (n / 100) (omega arith))

  stands : {f e : Bytes} → Ending f e → behind c ≡ e → Worth n w f → StandsFor n (ascii euro ++ (w ++ behind c))
  stands {f} {e} ends is v =
      let x = euros_written (n / 100) (omega arith) in
      record { whole = w; whole_digits = x.digital refl; some = x.least; fraction = f; ending = e; ends = ends; text = rw is; value = v }

  no_cents : c ≡ 0 → StandsFor n (ascii euro ++ (w ++ behind c))
  unfolding numeral
  no_cents z = stands no_point (rw z) (rw (read_on []) (omega arith))

  one_digit : c ≢ 0 → c % 10 ≡ 0 → StandsFor n (ascii euro ++ (w ++ behind c))
  unfolding numeral
  one_digit some z =
      let d = digit_byte (c / 10) in
      let is_digit = digit_byte_lem (c / 10) (omega arith) in
      stands (point (d ∷ []) (rw is_digit)) (point_and_one c some z) (rw (read_on (d ∷ []), digit_onto (n / 100) d is_digit) (omega arith))

  two_digits_lem : c % 10 ≢ 0 → StandsFor n (ascii euro ++ (w ++ behind c))
  unfolding numeral
  two_digits_lem other =
      let d = digit_byte (c / 10) in
      let e = digit_byte (c % 10) in
      let d-digit = digit_byte_lem (c / 10) (omega arith) in
      let e-digit = digit_byte_lem (c % 10) (omega arith) in
      let f : Bytes = d ∷ e ∷ [] in
      stands (point f (rw (d-digit, e-digit))) (point_and_two c other) (rw (read_on f, digit_onto (n / 100) d d-digit, digit_onto (10 * (n / 100) + (d - 48)) e e-digit) (omega arith))

  pub stands_itself : StandsFor n (shortest n)
  unfolding shortest
  stands_itself = by_cases (eqb c 0) refl (eqb (c % 10) 0) refl
    where
      by_cases : (a : Bool) → eqb c 0 ≡ a → (b : Bool) → eqb (c % 10) 0 ≡ b → StandsFor n (ascii euro ++ (w ++ behind c))
      by_cases true x b y = no_cents (eqb-true c 0 x)
      by_cases false x true y = one_digit (eqb-false c 0 x) (eqb-true (c % 10) 0 y)
      by_cases false x false y = two_digits_lem (eqb-false (c % 10) 0 y)
