-- A number written in decimal digits is read as itself, and digits with no zero in front are what their number is written as. Assumes nothing.
use Prim.Native.Nat.{ℕ, zero, suc, ◌+◌, ◌-◌, ◌*◌, ◌/◌, ◌%◌, ◌^◌, ◌≤◌, ◌<◌}
use native.Mathlib.Omega.{arith}
use mathlib.Core.Bool.{Bool, true, false, cond, ◌||◌, not, and-eq-true_iff, or-true}
use mathlib.Core.List.{[], ◌∷◌, ◌++◌, append-nil, append_assoc}
use mathlib.Core.Path.{◌≡◌, refl, ◌∙◌}
use lib.Dec.{eqb, ltb, lit≤}
use lib.ListN.{length, get_or, length-append}
use borrow.Author.Tests.{ltb-true, ltb-false, eqb-false, not-true, lt-ltb, le-ltb, le-leb, ne_eqb}
use Rattle.sieve.specs.Bytes.{Bytes, every}
use Rattle.sieve.specs.Decimal.{decimal_in}
use Rattle.sieve.specs.Letters.{digit}
use Rattle.sieve.specs.Mod97.{onto, numeral}
use Rattle.sieve.proofs.Bounds.{is_within}

-- digits, and the number that they are read as

pub digit_onto : (n x : ℕ) → digit x ≡ true → onto n x ≡ 10 * n + (x - 48)
digit_onto n x h = rw h

pub digit_byte_lem : (d : ℕ) → d < 10 → digit (48 + d) ≡ true
digit_byte_lem d h = (and-eq-true_iff _ _).1 (le-leb 48 (48 + d) (omega arith), le-leb (48 + d) 57 (omega arith))

pub number_after : (n : ℕ) (s t : Bytes) → numeral n (s ++ t) ≡ numeral (numeral n s) t
unfolding numeral
number_after n [] t = refl
number_after n (x ∷ s) t = number_after (onto n x) s t

pub number_below : (s : Bytes) (n m : ℕ) → every digit s ≡ true → n < 10 ^ m → numeral n s < 10 ^ (m + length s)
unfolding numeral
number_below [] n m h b = let e : m + 0 ≡ m = omega arith in rw e b
number_below (x ∷ s) n m h b =
    let (hx, hs) = (and-eq-true_iff _ _).0 h in
    let e : m + suc (length s) ≡ suc m + length s = omega arith in
    let (_, top) = is_within 48 57 x hx in
    rw (e, digit_onto n x hx) (number_below s (10 * n + (x - 48)) (suc m) hs (omega arith))

-- the digits of a number in front of a text, at most k of them
unfoldable pub digits : ℕ → ℕ → Bytes → Bytes
digits k n s = decimal_in k n ++ s

-- what is read is what was written

few : (k n : ℕ) (s : Bytes) → n < 10 → digits (suc k) n s ≡ (48 + n) ∷ s
unfolding digits decimal_in
few k n s h = rw (lt-ltb n 10 h)

many : (k n : ℕ) (s : Bytes) → 10 ≤ n → digits (suc k) n s ≡ digits k (n / 10) ((48 + n % 10) ∷ s)
unfolding digits decimal_in
many k n s h = rw (le-ltb n 10 h) (append_assoc (decimal_in k (n / 10)) ((48 + n % 10) ∷ []) s)

digits_of_number : (t s : Bytes) (k n : ℕ) → every digit t ≡ true → 1 ≤ n → digits (length t + k) (numeral n t) s ≡ digits k n (t ++ s)
unfolding numeral
digits_of_number [] s k n h b = let e : 0 + k ≡ k = omega arith in rw e
digits_of_number (x ∷ t) s k n h b =
    let (hx, ht) = (and-eq-true_iff _ _).0 h in
    let (low, top) = is_within 48 57 x hx in
    let m = 10 * n + (x - 48) in
    let e : suc (length t) + k ≡ length t + suc k = omega arith in
    let q : m / 10 ≡ n = omega arith in
    let r : 48 + m % 10 ≡ x = omega arith in
    rw (e, digit_onto n x hx) (digits_of_number t s (suc k) m ht (omega arith) ∙ (many k m (t ++ s) (omega arith) ∙ rw (q, r)))

-- no zero in front, save alone
abbrev pub unled : Bytes → Bool
unled w = eqb (length w) 1 || not (eqb (get_or w 0 0) 48)

pub digits_of_whole : (w : Bytes) (k : ℕ) → 1 ≤ length w → length w ≤ k → every digit w ≡ true → unled w ≡ true → digits k (numeral 0 w) [] ≡ w
unfolding numeral
digits_of_whole [] k a b h l = absurd (omega arith)
digits_of_whole (x ∷ []) k a b h l =
    let (hx, _) = (and-eq-true_iff _ _).0 h in
    let (low, top) = is_within 48 57 x hx in
    let m = 10 * 0 + (x - 48) in
    let e : k ≡ suc (k - 1) = omega arith in
    let r : 48 + m ≡ x = omega arith in
    rw (e, digit_onto 0 x hx) (few (k - 1) m [] (omega arith) ∙ rw r)
digits_of_whole (x ∷ y ∷ w) k a b h l =
    let t = y ∷ w in
    let (hx, ht) = (and-eq-true_iff _ _).0 h in
    let (low, top) = is_within 48 57 x hx in
    let m = 10 * 0 + (x - 48) in
    let x≢48 = eqb-false x 48 (not-true _ (rw (ne_eqb (length (x ∷ t)) 1 (λ z. omega arith)) at l)) in
    let e : k ≡ length t + suc (k - length (x ∷ t)) = omega arith in
    let r : 48 + m ≡ x = omega arith in
    rw (e, digit_onto 0 x hx)
    (digits_of_number t [] (suc (k - length (x ∷ t))) m ht (omega (arith, x≢48))
    ∙ (few (k - length (x ∷ t)) m (t ++ []) (omega arith) ∙ rw (r, append-nil t)))

-- each number is written

-- r is what stands for n, in digits, in front of s
pub record Written (k n : ℕ) (s r : Bytes) : Type 0 where
  pub value : numeral 0 r ≡ numeral n s
  pub digital : every digit s ≡ true → every digit r ≡ true
  pub least : length s < length r
  pub most : length r ≤ k + length s
  pub front : 1 ≤ n → get_or r 0 0 ≡ 48 → ⊥

module _ (k n : ℕ) (s : Bytes) where
  one_digit : n < 10 → Written (suc k) n s ((48 + n) ∷ s)
  unfolding numeral
  one_digit h =
      let e : 10 * 0 + (48 + n - 48) ≡ n = omega arith in
      record {
        value = rw (digit_onto 0 (48 + n) (digit_byte_lem n h), e);
        digital = λ hs. (and-eq-true_iff _ _).1 (digit_byte_lem n h, hs);
        least = omega arith;
        most = omega arith;
        front = λ m z. omega arith;
      }

  more_digits : (r : Bytes) → 10 ≤ n → Written k (n / 10) ((48 + n % 10) ∷ s) r → Written (suc k) n s r
  unfolding numeral
  more_digits r h x =
      let d = 48 + n % 10 in
      let is_digit = digit_byte_lem (n % 10) (omega arith) in
      let e : 10 * (n / 10) + (d - 48) ≡ n = omega arith in
      record {
        value = x.value ∙ rw (digit_onto (n / 10) d is_digit, e);
        digital = λ hs. x.digital ((and-eq-true_iff _ _).1 (is_digit, hs));
        least = omega (arith, x.least);
        most = omega (arith, x.most);
        front = λ m. x.front (omega arith);
      }

pub digits_written : (k n : ℕ) (s : Bytes) → n < 10 ^ suc k → Written (suc k) n s (digits (suc k) n s)
digits_written zero n s h = rw (few 0 n s h) (one_digit 0 n s h)
digits_written (suc k) n s h = by_cases (ltb n 10) refl (digits_written k (n / 10) ((48 + n % 10) ∷ s) (omega arith))
  where
    by_cases : (b : Bool) → ltb n 10 ≡ b → Written (suc k) (n / 10) ((48 + n % 10) ∷ s) (digits (suc k) (n / 10) ((48 + n % 10) ∷ s)) → Written (suc (suc k)) n s (digits (suc (suc k)) n s)
    by_cases true e x = rw (few (suc k) n s (ltb-true n 10 e)) (one_digit (suc k) n s (ltb-true n 10 e))
    by_cases false e x = rw (many (suc k) n s (ltb-false n 10 e)) (more_digits (suc k) n s _ (ltb-false n 10 e) x)

-- in no more digits than the power of ten has that it is below
pub no_more_digits : (k j n : ℕ) → n < 10 ^ suc j → length (decimal_in k n) ≤ suc j
unfolding decimal_in
no_more_digits zero j n h = omega arith
no_more_digits (suc k) zero n h = rw (lt-ltb n 10 h) (lit≤ tt)
no_more_digits (suc k) (suc j) n h = by_cases (ltb n 10) (no_more_digits k j (n / 10) (omega arith))
  where
    by_cases : (b : Bool) → length (decimal_in k (n / 10)) ≤ suc j → length (cond b ((48 + n) ∷ []) (decimal_in k (n / 10) ++ ((48 + n % 10) ∷ []))) ≤ suc (suc j)
    by_cases true e = omega arith
    by_cases false e = omega (arith, length-append (decimal_in k (n / 10)) ((48 + n % 10) ∷ []))

-- and no zero stands in front
pub written_unled : (n : ℕ) → n < 10 ^ 9 → unled (digits 9 n []) ≡ true
written_unled zero h = rw (few 8 0 [] (lit≤ tt))
written_unled (suc n) h =
    let w = digits 9 (suc n) [] in
    rw (ne_eqb (get_or w 0 0) 48 ((digits_written 8 (suc n) [] h).front (omega arith))) (or-true (eqb (length w) 1))
