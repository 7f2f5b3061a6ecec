-- Exactly one pair of check digits passes, for each head of two characters (a country, or RF) and each rest. Assumes nothing.
use Prim.Native.Nat.{ℕ, ◌+◌, ◌-◌, ◌*◌, ◌/◌, ◌%◌, ◌<◌}
use native.Mathlib.Omega.{arith}
use mathlib.Core.Bool.{true, false, ◌&&◌, and-eq-true_iff}
use mathlib.Core.List.{[], ◌∷◌, ◌++◌, append_assoc}
use mathlib.Core.Logic.{◌↔◌}
use mathlib.Core.Path.{◌≡◌, refl, sym, ap, ◌∙◌}
use lib.Dec.{eqb}
use lib.ListN.{length, length-append}
use lib.Seq.{take_at, drop_at}
use borrow.Author.Tests.{eqb-true, eq-eqb, le-leb}
use Rattle.sieve.specs.Bytes.{Bytes, ascii, within, every}
use Rattle.sieve.specs.Letters.{digit}
use Rattle.sieve.specs.Mod97.{onto, numeral, remainder97, pair, checks97}
use Rattle.sieve.specs.Only.{Only}
use Rattle.sieve.specs.Pairs.{two_digits, as_two, due_number, due_pair}
use Rattle.sieve.proofs.Bounds.{is_within}
use Rattle.sieve.proofs.Decimals.{digit_onto, digit_byte_lem, number_after}

-- two digits, one by one
data Two : Bytes → Type 0 where
  two : (x y : ℕ) → digit x ≡ true → digit y ≡ true → Two (x ∷ y ∷ [])

as_two_lem : (p : Bytes) → two_digits p ≡ true → Two p
as_two_lem p e = let (l, d) = (and-eq-true_iff (eqb (length p) 2) _).0 e in along p (eqb-true (length p) 2 l) d
  where
    along : (p : Bytes) → length p ≡ 2 → every digit p ≡ true → Two p
    along [] l d = absurd (omega arith)
    along (x ∷ []) l d = absurd (omega arith)
    along (x ∷ y ∷ []) l d =
        let t = (and-eq-true_iff (digit x) _).0 d in
        two x y t.0 ((and-eq-true_iff (digit y) true).0 t.1).0
    along (x ∷ y ∷ z ∷ p) l d = absurd (omega arith)

-- two digits move what stands before them up by two places
after_two : (n : ℕ) (p : Bytes) → Two p → numeral n p ≡ 100 * n + numeral 0 p
unfolding numeral
after_two n p (two x y a b) =
    digit_onto (onto n x) y b ∙ rw (digit_onto n x a, digit_onto (onto 0 x) y b, digit_onto 0 x a) (omega arith)

zeros : numeral 0 (ascii "00") ≡ 0
unfolding numeral
zeros = refl

-- a number below 100, as two digits, is that number
pub as_two_is : (n : ℕ) → n < 100 → (two_digits (as_two n) ≡ true) × (numeral 0 (as_two n) ≡ n)
unfolding numeral
as_two_is n h =
    let a = digit_byte_lem (n / 10) (omega arith) in
    let b = digit_byte_lem (n % 10) (omega arith) in
    (rw (a, b), digit_onto (onto 0 (48 + n / 10)) (48 + n % 10) b ∙ rw (digit_onto 0 (48 + n / 10) a) (omega arith))

-- two digits, as a number and again as two digits, are themselves
as_two_again : (p : Bytes) → Two p → as_two (numeral 0 p) ≡ p
unfolding numeral
as_two_again p (two x y a b) =
    let v : onto (onto 0 x) y ≡ 10 * (x - 48) + (y - 48) = digit_onto (onto 0 x) y b ∙ rw (digit_onto 0 x a) (omega arith) in
    let (i, _) = is_within 48 57 x a in
    let (j, k) = is_within 48 57 y b in
    let t : 48 + onto (onto 0 x) y / 10 ≡ x = omega arith in
    let u : 48 + onto (onto 0 x) y % 10 ≡ y = omega arith in
    rw (t, u)

-- of the numbers 2 to 98 exactly one, added to n, leaves the remainder 1
due : (n v : ℕ) → ((within 2 98 v && eqb ((n + v) % 97) 1) ≡ true) ↔ (v ≡ 98 - n % 97)
due n v = (only, λ e. (and-eq-true_iff _ _).1 ((and-eq-true_iff _ _).1 (le-leb 2 v (omega arith), le-leb v 98 (omega arith)), eq-eqb ((n + v) % 97) 1 (omega arith)))
  where
    only : (within 2 98 v && eqb ((n + v) % 97) 1) ≡ true → v ≡ 98 - n % 97
    only c =
        let t = (and-eq-true_iff (within 2 98 v) _).0 c in
        omega (arith, is_within 2 98 v t.0, eqb-true ((n + v) % 97) 1 t.1)

module _ (head rest : Bytes) (h : length head ≡ 2) where
  -- the length of a text put together from head, pair and rest, its pair, and its remainder

  two_long : (p : Bytes) → Two p → length p ≡ 2
  two_long p (two x y a b) = refl

  pair_of : (p : Bytes) → Two p → pair (head ++ (p ++ rest)) ≡ p
  pair_of p t = rw (drop_at head (p ++ rest) 2 h) (take_at p rest 2 (two_long p t))

  remainder_of : (p : Bytes) → Two p → remainder97 (head ++ (p ++ rest)) ≡ (numeral 0 (rest ++ (head ++ ascii "00")) + numeral 0 p) % 97
  unfolding remainder97
  remainder_of p t =
      let l : length (head ++ p) ≡ 4 = omega (arith, length-append head p, two_long p t) in
      let at_end : (q : Bytes) → Two q → numeral 0 (rest ++ (head ++ q)) ≡ 100 * numeral 0 (rest ++ head) + numeral 0 q =
      λ q u. rw (← append_assoc rest head q) (number_after 0 (rest ++ head) q ∙ after_two (numeral 0 (rest ++ head)) q u) in
      rw (← append_assoc head p rest, take_at (head ++ p) rest 4 l, drop_at (head ++ p) rest 4 l)
      (ap (λ (n : ℕ). n % 97) (omega (arith, at_end p t, at_end (ascii "00") (two 48 48 refl refl), zeros)))

  -- its check asks for the one number that is due
  check_of : (p : Bytes) → Two p → checks97 (head ++ (p ++ rest)) ≡ within 2 98 (numeral 0 p) && eqb ((numeral 0 (rest ++ (head ++ ascii "00")) + numeral 0 p) % 97) 1
  check_of p t =
      let long = le-leb 4 (length (head ++ (p ++ rest))) (omega (arith, h, two_long p t, length-append head (p ++ rest), length-append p rest)) in
      rw (long, remainder_of p t, pair_of p t)

  -- exactly one pair passes between a head of two characters and a rest
  pub one_pair : Only (λ p. (two_digits p ≡ true) × (checks97 (head ++ (p ++ rest)) ≡ true)) (due_pair head rest)
  unfolding due_pair
  one_pair =
      let n = numeral 0 (rest ++ (head ++ ascii "00")) in
      let q = as_two (due_number head rest) in
      let (e, v) = as_two_is (due_number head rest) (omega arith) in
      record {
        has = (e, check_of q (as_two_lem q e) ∙ (due n (numeral 0 q)).1 v);
        alone = λ p a.
            let t = as_two_lem p a.0 in
            sym (as_two_again p t) ∙ ap as_two ((due n (numeral 0 p)).0 (sym (check_of p t) ∙ a.1));
      }

  -- no pair outside 02 to 98 passes
  pub no_other : (p : Bytes) → two_digits p ≡ true → within 2 98 (numeral 0 p) ≡ false → checks97 (head ++ (p ++ rest)) ≡ false
  no_other p e w = rw (check_of p (as_two_lem p e), w)
