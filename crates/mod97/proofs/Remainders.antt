-- The number that a text stands for, and its remainder by 97, for a text of any length. Assumes nothing.
use Prim.Native.Nat.{ℕ, ◌+◌, ◌-◌, ◌*◌, ◌/◌, ◌%◌, ◌≤◌, ◌<◌}
use native.Mathlib.Nat.{mul-add-mod_self_left}
use native.Mathlib.Omega.{arith}
use mathlib.Core.Bool.{cond}
use mathlib.Core.List.{[], ◌∷◌, ◌++◌}
use mathlib.Core.Path.{◌≡◌, refl, sym, ap, ◌∙◌}
use lib.ListN.{length, get_or, take, drop, length-drop}
use lib.Seq.{take_all}
use Rattle.sieve.specs.Bytes.{Bytes}
use Rattle.sieve.specs.Letters.{digit}
use Rattle.sieve.specs.Mod97.{value, onto, numeral}
use Rattle.mod97.specs.Weight.{weight}
use Rattle.sieve.proofs.Decimals.{number_after}
use Rattle.sieve.proofs.Folds.{Fold, step, end}

pub numbers : Fold numeral onto
unfolding numeral
numbers = record { nothing = λ n. refl; one_more = λ n x s. refl }

-- the remainder of k n + v, by the remainder of n
rest : (k n v : ℕ) → (k * n + v) % 97 ≡ (k * (n % 97) + v) % 97
rest k n v =
    let whole : n ≡ 97 * (n / 97) + n % 97 = omega arith in
    let split : k * n + v ≡ 97 * (k * (n / 97)) + (k * (n % 97) + v) = omega (arith, ap (λ (m : ℕ). k * m) whole) in
    rw split (mul-add-mod_self_left 97 (k * (n / 97)) (k * (n % 97) + v))

-- only the remainder of what stands before counts
pub carried : (n : ℕ) (s : Bytes) → numeral n s % 97 ≡ numeral (n % 97) s % 97
unfolding numeral
carried n [] = omega arith
carried n (x ∷ s) = carried (onto n x) s ∙ ap (λ (k : ℕ). numeral k s % 97) (rest (cond (digit x) 10 100) n (value x)) ∙ sym (carried (onto (n % 97) x) s)

-- one character more is read, after the remainder r of what stands before
pub one_turn : (n r : ℕ) (s : Bytes) (i : ℕ) → i < length s → numeral n s % 97 ≡ numeral r (drop i s) % 97
    → numeral n s % 97 ≡ numeral (onto r (get_or s i 0) % 97) (drop (i + 1) s) % 97
one_turn n r s i h e = e ∙ ap (λ (k : ℕ). k % 97) (step numbers r s i h) ∙ carried _ (drop (i + 1) s)

-- one character more is read, after a number q that leaves the remainder of what stands before
pub one_read : (n r q : ℕ) (s : Bytes) (i : ℕ) → i < length s → q % 97 ≡ r % 97 → numeral n s % 97 ≡ numeral r (drop i s) % 97
    → numeral n s % 97 ≡ numeral (onto q (get_or s i 0)) (drop (i + 1) s) % 97
one_read n r q s i h same e =
    let before : numeral r (drop i s) % 97 ≡ numeral q (drop i s) % 97 = carried r (drop i s) ∙ ap (λ (k : ℕ). numeral k (drop i s) % 97) (sym same) ∙ sym (carried q (drop i s)) in
    e ∙ before ∙ ap (λ (k : ℕ). k % 97) (step numbers q s i h)

-- the first character is read by itself, and then the others
pub first_turn : (n : ℕ) (s : Bytes) → 0 < length s → numeral (onto n (get_or s 0 0) % 97) (take (length s - 1) (drop 1 s)) % 97 ≡ numeral n s % 97
first_turn n s h =
    let p : length (drop 1 s) ≤ length s - 1 = simp length-drop (omega arith) in
    rw (take_all (length s - 1) (drop 1 s) p) (sym (one_turn n n s 0 h refl))

-- two characters more
pub two_turns : (n r : ℕ) (s : Bytes) (i : ℕ) → i + 1 < length s → numeral n s % 97 ≡ numeral r (drop i s) % 97
    → numeral n s % 97 ≡ numeral (onto (onto r (get_or s i 0) % 97) (get_or s (i + 1) 0) % 97) (drop (i + 2) s) % 97
two_turns n r s i h e =
    let two : i + 2 ≡ i + 1 + 1 = omega arith in
    rw two (one_turn n _ s (i + 1) h (one_turn n r s i (omega arith) e))

-- nothing is left to read
pub no_turn : (n r : ℕ) (s : Bytes) (i : ℕ) → length s ≤ i → r < 97 → numeral n s % 97 ≡ numeral r (drop i s) % 97 → r ≡ numeral n s % 97
no_turn n r s i h small e = rw (e, end numbers r s i h) (omega arith)

pub none_left : (n r : ℕ) (s : Bytes) (i : ℕ) → length s ≤ i → numeral n s % 97 ≡ numeral r (drop i s) % 97 → r % 97 ≡ numeral n s % 97
none_left n r s i h e = rw (e, end numbers r s i h)

-- what stands before a text counts as many times as the text weighs
pub summed : (n : ℕ) (s : Bytes) → numeral n s ≡ n * weight s + numeral 0 s
unfolding numeral weight
summed n [] = omega arith
summed n (x ∷ s) = omega (arith, summed (onto n x) s, summed (onto 0 x) s)

-- one character for another of its kind changes the number by as much as they differ, times what follows
pub one_changed : (n : ℕ) (a b : Bytes) (x y : ℕ) → digit x ≡ digit y
    → numeral n (a ++ (x ∷ b)) + value y * weight b ≡ numeral n (a ++ (y ∷ b)) + value x * weight b
unfolding numeral
one_changed n a b x y e =
    rw (number_after n a (x ∷ b), number_after n a (y ∷ b), summed (onto (numeral n a) x) b, summed (onto (numeral n a) y) b, e) (omega arith)
