-- Digits alone behind two characters, and that an account or a reference of digits alone with right check digits has its form. Assumes nothing.
use Prim.Native.Nat.{ℕ, ◌+◌, ◌≤◌}
use native.Mathlib.Omega.{arith}
use mathlib.Core.Bool.{Bool, true, false, ◌&&◌, and-false, and-eq-true_iff}
use mathlib.Core.Path.{◌≡◌, refl, ◌∙◌}
use lib.Dec.{eqb}
use lib.ListN.{length, take, drop, length-drop}
use lib.Seq.{drop-drop, take_all}
use borrow.Author.Tests.{le-leb}
use Rattle.sieve.specs.Bytes.{Bytes, ascii, within, same, every}
use Rattle.sieve.specs.Letters.{digit, digit_or_capital, alphanumeric}
use Rattle.sieve.specs.Mod97.{checks97}
use Rattle.sieve.proofs.Bounds.{is_within}
use Rattle.swiss.specs.Forms.{iban_country, iban, scor}
use Rattle.runs.proofs.Parts.{every_parted, every_part, every_weaker}
use Rattle.swiss_forms.specs.Digits.{iban_of_digits, scor_of_digits}

-- digits behind two characters: the first n, and those behind them
pub split : (n : ℕ) (s : Bytes) → every digit (drop 2 s) ≡ true → (every digit (take n (drop 2 s)) ≡ true) × (every digit (drop (2 + n) s) ≡ true)
split n s h = rw (drop-drop n 2 s) at (every_part digit n (drop 2 s) h)

-- what is asked of the head, digits alone behind two characters, and right check digits
asked : (head : Bool) (s : Bytes) → (head && every digit (drop 2 s) && checks97 s) ≡ true → (head ≡ true) × (every digit (drop 2 s) ≡ true) × (checks97 s ≡ true)
asked head s h =
    let (t, checks) = (and-eq-true_iff (head && every digit (drop 2 s)) (checks97 s)).0 h in
    let (head-is, all) = (and-eq-true_iff head (every digit (drop 2 s))).0 t in
    (head-is, all, checks)

pub iban_of_digits_lem : (s : Bytes) → iban_of_digits s ≡ true → (iban s ≡ true) × (checks97 s ≡ true)
iban_of_digits_lem s h =
    let (head, all, checks) = asked (eqb (length s) 21 && iban_country (take 2 s)) s h in
    let (seven, behind) = split 7 s all in
    let (twelve, _) = every_part digit 12 (drop 9 s) behind in
    (rw (head, seven) (every_weaker digit digit_or_capital (λ x e. rw e) (take 12 (drop 9 s)) twelve), checks)

pub scor_of_digits_lem : (s : Bytes) → scor_of_digits s ≡ true → (scor s ≡ true) × (checks97 s ≡ true)
scor_of_digits_lem s h =
    let (head, all, checks) = asked (within 5 22 (length s) && same (take 2 s) (ascii "RF")) s h in
    let (few, rf) = (and-eq-true_iff (within 5 22 (length s)) _).0 head in
    let (low, top) = is_within 5 22 (length s) few in
    let (two, behind) = split 2 s all in
    (rw (le-leb 5 (length s) low, le-leb (length s) 25 (omega arith), rf, two) (every_weaker digit alphanumeric (λ x e. rw e) (drop 4 s) behind), checks)

-- a part that goes to the end
pub to_end : (from size : ℕ) (s : Bytes) → length s ≤ from + size → take size (drop from s) ≡ drop from s
to_end from size s h = take_all size (drop from s) (simp length-drop (omega arith))

-- the 19 characters behind the country are digits where the first 16 and the last 16 are
pub overlapping : (s : Bytes) → length s ≤ 21 → every digit (drop 2 s) ≡ every digit (take 16 (drop 2 s)) && every digit (take 16 (drop 5 s))
overlapping s h = rw (to_end 5 16 s h) (by_cases (every digit (take 16 (drop 2 s))) (every digit (drop 5 s)) refl refl)
  where
    by_16 : every digit (drop 2 s) ≡ every digit (take 16 (drop 2 s)) && every digit (drop 18 s)
    by_16 = rw (drop-drop 16 2 s) at (every_parted digit 16 (drop 2 s))

    by_3 : every digit (drop 2 s) ≡ every digit (take 3 (drop 2 s)) && every digit (drop 5 s)
    by_3 = rw (drop-drop 3 2 s) at (every_parted digit 3 (drop 2 s))

    by_cases : (a b : Bool) → every digit (take 16 (drop 2 s)) ≡ a → every digit (drop 5 s) ≡ b → every digit (drop 2 s) ≡ (a && b)
    by_cases true true e f = by_16 ∙ rw (e, ← drop-drop 13 5 s) (every_part digit 13 (drop 5 s) f).1
    by_cases true false e f = by_3 ∙ rw f (and-false (every digit (take 3 (drop 2 s))))
    by_cases false b e f = by_16 ∙ rw e
