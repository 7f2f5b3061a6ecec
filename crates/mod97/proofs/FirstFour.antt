-- A text by its first four characters: the pair of check digits among them, and the remainder by what is behind them. Assumes nothing.
use Prim.Native.Nat.{ℕ, ◌+◌, ◌*◌, ◌%◌, ◌^◌, ◌≤◌, ◌<◌}
use native.Mathlib.Omega.{arith}
use mathlib.Core.Bool.{Bool, true, false, ◌&&◌, and-false, and-eq-true_iff}
use mathlib.Core.List.{[], ◌∷◌}
use mathlib.Core.Path.{◌≡◌, ap, ◌∙◌}
use lib.Dec.{eqb, leb}
use lib.ListN.{length, get_or, take, drop}
use borrow.Author.Tests.{le-leb, lt-leb}
use Rattle.sieve.specs.Bytes.{Bytes, within, every}
use Rattle.sieve.specs.Letters.{digit, capital}
use Rattle.sieve.specs.Mod97.{value, onto, numeral, pair, checks97}
use Rattle.sieve.proofs.Bounds.{is_within}
use Rattle.mod97.proofs.Values.{onto_small}
use Rattle.mod97.proofs.Moved.{moved_behind}

-- four characters, and any behind them
pub data Four : Bytes → Type 0 where
  four : (a b x y : ℕ) (t : Bytes) → Four (a ∷ b ∷ x ∷ y ∷ t)

pub has_four : (s : Bytes) → 4 ≤ length s → Four s
has_four [] h = absurd (omega arith)
has_four (a ∷ []) h = absurd (omega arith)
has_four (a ∷ b ∷ []) h = absurd (omega arith)
has_four (a ∷ b ∷ x ∷ []) h = absurd (omega arith)
has_four (a ∷ b ∷ x ∷ y ∷ t) h = four a b x y t

pub pair_read : {s : Bytes} → Four s → onto (value (get_or s 2 0)) (get_or s 3 0) ≡ numeral 0 (pair s)
unfolding numeral
pair_read (four a b x y t) = let first : onto 0 x ≡ value x = omega arith in rw first

-- two characters that pass a test
both : (f : ℕ → Bool) (x y : ℕ) → every f (x ∷ y ∷ []) ≡ true → (f x ≡ true) × (f y ≡ true)
both f x y h = let (hx, hy) = (and-eq-true_iff (f x) _).0 h in (hx, ((and-eq-true_iff (f y) true).0 hy).0)

pub head_small : {s : Bytes} → Four s → numeral 0 (take 2 s) < 100 ^ 2
unfolding numeral
head_small (four a b x y t) = onto_small 1 (onto 0 a) b (onto_small 0 0 a (omega arith))

-- a letter takes two decimal places
letter_onto : (n x : ℕ) → capital x ≡ true → onto n x ≡ 100 * n + value x
letter_onto n x h =
    let (low, top) = is_within 65 90 x h in
    let none : digit x ≡ false = rw (lt-leb x 57 (omega arith)) (and-false (leb 48 x)) in
    rw none

-- the pair as a number, and all four behind the number r, where they are two letters and two digits
pub record Paired (s : Bytes) (r : ℕ) : Type 0 where
  pub number_of : numeral 0 (pair s) ≡ 10 * value (get_or s 2 0) + value (get_or s 3 0)
  pub behind : numeral r (take 4 s) ≡ 1000000 * r + 100 * numeral 0 (take 2 s) + (10 * value (get_or s 2 0) + value (get_or s 3 0))

pub pair_and_letters : {s : Bytes} (r : ℕ) → Four s → every capital (take 2 s) ≡ true → every digit (pair s) ≡ true → Paired s r
unfolding numeral
pair_and_letters r (four a b x y t) letters digits =
    let (ha, hb) = both capital a b letters in
    let (hx, hy) = both digit x y digits in
    let two : (n : ℕ) → onto (onto n a) b ≡ 10000 * n + 100 * value a + value b = λ n. letter_onto (onto n a) b hb ∙ rw (letter_onto n a ha) (omega arith) in
    record { number_of = rw (hx, hy) (omega arith); behind = rw (two r, two 0, hx, hy) (omega arith) }

-- whether they are right, by the number of what is before the pair and of what is behind it
pub checks_with : (s : Bytes) (letters rest : ℕ) → 4 ≤ length s → every capital (take 2 s) ≡ true → every digit (pair s) ≡ true
    → letters ≡ numeral 0 (take 2 s) → rest ≡ numeral 0 (drop 4 s)
    → let p = 10 * value (get_or s 2 0) + value (get_or s 3 0) in (within 2 98 p && eqb ((1000000 * (rest % 97) + 100 * letters + p) % 97) 1) ≡ checks97 s
checks_with s letters rest h a d e f =
    let q = pair_and_letters (rest % 97) (has_four s h) a d in
    rw (le-leb 4 (length s) h, ← moved_behind s (rest % 97) (ap (λ (k : ℕ). k % 97) f), q.behind, q.number_of, e)
