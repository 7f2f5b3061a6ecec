-- Amounts are numbers: an amount that line 19 may hold stands for 1 to 99999999999 cents, and each such number is the value of one. Assumes nothing.
use Prim.Native.Nat.{ℕ, suc, ◌+◌, ◌-◌, ◌*◌, ◌/◌, ◌%◌, ◌^◌, ◌≤◌}
use native.Mathlib.Nat.{pow-le-pow_right}
use native.Mathlib.Omega.{arith}
use mathlib.Core.Bool.{Bool, true, false, ◌&&◌, not, true≢false, and-eq-true_iff}
use mathlib.Core.List.{[], ◌∷◌, ◌++◌}
use mathlib.Core.Path.{◌≡◌, refl, sym, ◌∙◌, ap}
use lib.Dec.{eqb, leb, lit≤}
use lib.ListN.{length, get_or, take, drop, length-append, length-drop, take-append-drop, drop_of_length-le}
use lib.Seq.{length-take-le, drop-cons, take_at, get_or_at, drop-append-add}
use borrow.Author.Tests.{leb-true, eqb-true, not-true, le-leb, lt-leb}
use Rattle.sieve.specs.Bytes.{Bytes, ascii, same, every}
use Rattle.sieve.specs.Decimal.{decimal_in}
use Rattle.sieve.specs.Letters.{digit}
use Rattle.sieve.specs.Characters.{characters}
use Rattle.sieve.specs.Mod97.{onto, numeral}
use Rattle.sieve.proofs.Bounds.{is_within, same_is}
use Rattle.sieve.proofs.Decimals.{digit_onto, digit_byte_lem, number_after, number_below, digits, unled, digits_of_whole, Written, digits_written, written_unled}
use Rattle.swiss.specs.Limits.{amount_most}
use Rattle.swiss.specs.Forms.{amount}
use Rattle.swiss.specs.Cents.{cents}

-- how a number of cents is written, with at most k digits of francs
written : ℕ → ℕ → Bytes
written k n = digits k (n / 100) [] ++ 46 ∷ (48 + n / 10 % 10) ∷ (48 + n % 10) ∷ []

-- the parts of an amount

abbrev laid : Bytes → ℕ → ℕ → Bytes
laid w c d = w ++ 46 ∷ c ∷ d ∷ []

-- whole francs, two digits behind the point
record Parts (w : Bytes) (c d : ℕ) : Type 0 where
  francs : 1 ≤ length w
  whole : every digit w ≡ true
  lead : unled w ≡ true
  tenths : digit c ≡ true
  hundredths : digit d ≡ true

module _ (w : Bytes) (c d : ℕ) where
  laid_length : length (laid w c d) ≡ length w + 3
  laid_length = length-append w (46 ∷ c ∷ d ∷ [])

  -- the places of the point and of the digit behind it
  point : length w ≡ length (laid w c d) - 3
  point = omega (arith, laid_length)

  behind : length w + 1 ≡ length (laid w c d) - 2
  behind = omega (arith, laid_length)

  laid_cents : cents (laid w c d) ≡ onto (onto (numeral 0 w) c) d
  unfolding cents numeral
  laid_cents = rw (← behind, ← point, take_at w (46 ∷ c ∷ d ∷ []) (length w) refl, drop-append-add w (46 ∷ c ∷ d ∷ []) 1) (number_after 0 w (c ∷ d ∷ []))

  laid_amount : amount (laid w c d)
      ≡ (leb 4 (length w + 3) && every digit w && eqb 46 46 && every digit (c ∷ d ∷ []) && unled w && not (same (laid w c d) (ascii "0.00")))
  laid_amount = rw (← behind, ← point, take_at w (46 ∷ c ∷ d ∷ []) (length w) refl, drop-append-add w (46 ∷ c ∷ d ∷ []) 1, get_or_at w 46 (c ∷ d ∷ []) 0 (length w) refl, laid_length)

-- an amount is laid of parts, and is not 0.00
record Amount (s : Bytes) : Type 0 where
  w : Bytes
  c : ℕ
  d : ℕ
  is : s ≡ laid w c d
  parts : Parts w c d
  not_zero : same s (ascii "0.00") ≡ false

six : (a b c d e f : Bool) → (a && b && c && d && e && f) ≡ true → (a ≡ true) × (b ≡ true) × (c ≡ true) × (d ≡ true) × (e ≡ true) × (f ≡ true)
six a b c d e f h =
    let (h5, hf) = (and-eq-true_iff (a && b && c && d && e) f).0 h in
    let (h4, he) = (and-eq-true_iff (a && b && c && d) e).0 h5 in
    let (h3, hd) = (and-eq-true_iff (a && b && c) d).0 h4 in
    let (h2, hc) = (and-eq-true_iff (a && b) c).0 h3 in
    let (ha, hb) = (and-eq-true_iff a b).0 h2 in
    (ha, hb, hc, hd, he, hf)

last_two : (s : Bytes) (i : ℕ) → length s ≡ suc (suc i) → drop i s ≡ get_or s i 0 ∷ get_or s (suc i) 0 ∷ []
last_two s i h = rw (drop-cons s i 0 (omega arith), drop-cons s (suc i) 0 (omega arith), drop_of_length-le s {i = suc (suc i)} (omega arith))

amount_parts : (s : Bytes) → amount s ≡ true → Amount s
amount_parts s h =
    let i = length s - 3 in
    let w = take i s in
    let c = get_or s (suc i) 0 in
    let d = get_or s (suc (suc i)) 0 in
    let k = six (leb 4 (length s)) (every digit w) (eqb (get_or s i 0) 46) (every digit (drop (length s - 2) s)) (unled w) (not (same s (ascii "0.00"))) h in
    let long = leb-true 4 (length s) k.0 in
    let e : length s - 2 ≡ suc i = omega arith in
    let two : drop (suc i) s ≡ c ∷ d ∷ [] = last_two s (suc i) (omega arith) in
    let behind : every digit (c ∷ d ∷ []) ≡ true = (rw (e, two) at k).3 in
    let (hc, rest) = (and-eq-true_iff (digit c) (digit d && true)).0 behind in
    let (hd, _) = (and-eq-true_iff (digit d) true).0 rest in
    let three : drop i s ≡ 46 ∷ c ∷ d ∷ [] = drop-cons s i 0 (omega arith) ∙ rw (eqb-true (get_or s i 0) 46 k.2, two) in
    record {
      w = w;
      c = c;
      d = d;
      is = sym (take-append-drop i s) ∙ rw three;
      parts = record { francs = omega (arith, length-take-le i s (omega arith)); whole = k.1; lead = k.4; tenths = hc; hundredths = hd };
      not_zero = not-true _ k.5;
    }

-- how many characters an amount has

one_each : (s t : Bytes) → every digit s ≡ true → characters (s ++ t) ≡ length s + characters t
unfolding characters
one_each [] t h = omega arith
one_each (x ∷ s) t h =
    let (hx, hs) = (and-eq-true_iff _ _).0 h in
    let (low, top) = is_within 48 57 x hx in
    rw (lt-leb 0x80 x (omega arith)) (omega (arith, one_each s t hs))

module _ {w : Bytes} {c d : ℕ} (p : Parts w c d) where
  laid_characters : characters (laid w c d) ≡ length w + 3
  unfolding characters
  laid_characters =
      let behind : every digit (c ∷ d ∷ []) ≡ true = rw (p.tenths, p.hundredths) in
      omega (arith, one_each w (46 ∷ c ∷ d ∷ []) p.whole, one_each (c ∷ d ∷ []) [] behind)

  parts_cents : cents (laid w c d) ≡ 100 * numeral 0 w + 10 * (c - 48) + (d - 48)
  parts_cents = omega (arith, laid_cents w c d, digit_onto (numeral 0 w) c p.tenths, digit_onto (onto (numeral 0 w) c) d p.hundredths)

  -- what is read of an amount is written as it stood
  written_again : (k : ℕ) → length w ≤ k → written k (cents (laid w c d)) ≡ laid w c d
  unfolding written
  written_again k h =
      let n = cents (laid w c d) in
      let (c-low, c-top) = is_within 48 57 c p.tenths in
      let (d-low, d-top) = is_within 48 57 d p.hundredths in
      let q : n / 100 ≡ numeral 0 w = omega (arith, parts_cents) in
      let r : 48 + n / 10 % 10 ≡ c = omega (arith, parts_cents) in
      let u : 48 + n % 10 ≡ d = omega (arith, parts_cents) in
      rw (q, r, u, digits_of_whole w k p.francs h p.whole p.lead)

  cents_most : characters (laid w c d) ≤ amount_most → cents (laid w c d) ≤ 99999999999
  cents_most h =
      let (_, c-top) = is_within 48 57 c p.tenths in
      let (_, d-top) = is_within 48 57 d p.hundredths in
      let short : 10 ^ (0 + length w) ≤ 10 ^ 9 = pow-le-pow_right (lit≤ tt) {j = 9} (omega (arith, laid_characters)) in
      omega (arith, parts_cents, number_below w 0 0 p.whole (lit≤ tt))

amount_written : (s : Bytes) → amount s ≡ true → (k : ℕ) → length s ≤ k → written k (cents s) ≡ s
amount_written s h k b =
    let a = amount_parts s h in
    let l = laid_length a.w a.c a.d in
    rw a.is (written_again a.parts k (omega (arith, l, ap length a.is)))

-- each value once
pub one_amount_each : (s t : Bytes) → amount s ≡ true → amount t ≡ true → cents s ≡ cents t → s ≡ t
one_amount_each s t hs ht e =
    let k = length s + length t in
    sym (amount_written s hs k (omega arith)) ∙ (ap (written k) e ∙ amount_written t ht k (omega arith))

some_cents : (s : Bytes) → amount s ≡ true → cents s ≡ 0 → ⊥
unfolding written digits decimal_in
some_cents s h z =
    let e : written (suc (length s)) 0 ≡ s = ap (written (suc (length s))) (sym z) ∙ amount_written s h (suc (length s)) (omega arith) in
    true≢false (ap (λ t. same t (ascii "0.00")) e ∙ (amount_parts s h).not_zero)

-- an amount that line 19 may hold is 0.01 to 999999999.99
pub amount_in_cents : (s : Bytes) → amount s ≡ true → characters s ≤ amount_most → (1 ≤ cents s) × (cents s ≤ 99999999999)
amount_in_cents s h b =
    let a = amount_parts s h in
    let some = some_cents s h in
    let most : cents s ≤ 99999999999 = rw a.is (cents_most a.parts (rw a.is at b)) in
    (omega arith, most)

-- so the amount of a line 19: digits of francs, a point, and two digits of cents

-- two digits behind a number
two_behind : (n : ℕ) (t : Bytes) → length t ≡ 2 → every digit t ≡ true → numeral n t ≡ 100 * n + numeral 0 t
unfolding numeral
two_behind n [] h k = absurd (omega arith)
two_behind n (c ∷ []) h k = absurd (omega arith)
two_behind n (c ∷ d ∷ []) h k =
    let (hc, rest) = (and-eq-true_iff (digit c) (digit d && true)).0 k in
    let (hd, _) = (and-eq-true_iff (digit d) true).0 rest in
    omega (arith, digit_onto n c hc, digit_onto 0 c hc, digit_onto (onto n c) d hd, digit_onto (onto 0 c) d hd)
two_behind n (c ∷ d ∷ e ∷ t) h k = absurd (omega arith)

pub record Due (s : Bytes) : Type 0 where
  pub long : 4 ≤ length s
  pub short : length s ≤ amount_most
  pub whole : every digit (take (length s - 3) s) ≡ true
  pub behind : every digit (drop (length s - 2) s) ≡ true
  pub value : cents s ≡ 100 * numeral 0 (take (length s - 3) s) + numeral 0 (drop (length s - 2) s)
  pub most : cents s ≤ 99999999999

pub amount_due : (s : Bytes) → amount s ≡ true → characters s ≤ amount_most → Due s
unfolding cents
amount_due s h b =
    let a = amount_parts s h in
    let w = take (length s - 3) s in
    let t = drop (length s - 2) s in
    let k = six (leb 4 (length s)) (every digit w) (eqb (get_or s (length s - 3) 0) 46) (every digit t) (unled w) (not (same s (ascii "0.00"))) h in
    let long = leb-true 4 (length s) k.0 in
    let two : length t ≡ 2 = omega (arith, length-drop (length s - 2) s) in
    record {
      long = long;
      short = omega (arith, ap length a.is, ap characters a.is, laid_length a.w a.c a.d, laid_characters a.parts);
      whole = k.1;
      behind = k.3;
      value = number_after 0 w t ∙ two_behind (numeral 0 w) t two k.3;
      most = (amount_in_cents s h b).1;
    }

-- each number in this range has an amount

zero_cents : cents (ascii "0.00") ≡ 0
unfolding cents numeral
zero_cents = refl

module _ (n : ℕ) (some : 1 ≤ n) (most : n ≤ 99999999999) where
  abbrev w : Bytes
  w = digits 9 (n / 100) []

  abbrev c : ℕ
  c = 48 + n / 10 % 10

  abbrev d : ℕ
  d = 48 + n % 10

  whole_written : Written 9 (n / 100) [] w
  whole_written = digits_written 8 (n / 100) [] (omega arith)

  parts : Parts w c d
  parts =
      record {
        francs = whole_written.least;
        whole = whole_written.digital refl;
        lead = written_unled (n / 100) (omega arith);
        tenths = digit_byte_lem (n / 10 % 10) (omega arith);
        hundredths = digit_byte_lem (n % 10) (omega arith);
      }

  cents_again : cents (laid w c d) ≡ n
  unfolding numeral
  cents_again = omega (arith, parts_cents parts, whole_written.value)

  not_nothing : same (laid w c d) (ascii "0.00") ≡ false
  not_nothing = by_cases (same (laid w c d) (ascii "0.00")) refl
    where
      by_cases : (b : Bool) → same (laid w c d) (ascii "0.00") ≡ b → b ≡ false
      by_cases true e = absurd (omega (arith, cents_again, ap cents (same_is (laid w c d) (ascii "0.00") e), zero_cents))
      by_cases false e = refl

  written_amount : (s : Bytes) × (amount s ≡ true) × (characters s ≤ amount_most) × (cents s ≡ n)
  written_amount = (
    laid w c d,
    rw (laid_amount w c d, le-leb 4 (length w + 3) (omega (arith, parts.francs)), parts.whole, parts.tenths, parts.hundredths, parts.lead, not_nothing),
    omega (arith, laid_characters parts, whole_written.most),
    cents_again,
  )

-- each number in the range is an amount that line 19 may hold
pub every_amount : (n : ℕ) → 1 ≤ n → n ≤ 99999999999 → (s : Bytes) × (amount s ≡ true) × (characters s ≤ amount_most) × (cents s ≡ n)
every_amount = written_amount
