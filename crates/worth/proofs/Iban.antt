-- Two IBANs, alike save in one character or in the order of two neighbours. Assumes nothing.
use Prim.Native.Nat.{ℕ, ◌%◌, ◌≤◌, ◌<◌}
use native.Mathlib.Omega.{arith}
use mathlib.Core.Bool.{Bool, true, false, ◌&&◌, ◌||◌, and-eq-true_iff, false≢true}
use mathlib.Core.List.{◌∷◌, ◌++◌, append_assoc}
use mathlib.Core.Logic.{◌≢◌}
use mathlib.Core.Path.{◌≡◌, refl, sym, ◌∙◌}
use lib.Dec.{eqb, leb}
use lib.ListN.{length, take, drop, length-append, length-drop}
use lib.Seq.{take-append-le, drop-append-le}
use borrow.Author.Tests.{eqb-true, eq-eqb, ne_eqb, leb-true, leb-false, le-leb}
use Rattle.sieve.specs.Bytes.{Bytes, within}
use Rattle.sieve.specs.Letters.{digit, capital, digit_or_capital}
use Rattle.sieve.specs.Mod97.{value, numeral, remainder97, pair, checks97}
use Rattle.swiss.specs.Forms.{iban}
use Rattle.sieve.proofs.Alphabets.{alike}
use Rattle.sieve.proofs.Bounds.{is_within}
use Rattle.mod97.proofs.Values.{value_small}
use Rattle.mod97.proofs.Remainders.{one_changed}
use Rattle.worth.specs.Slips.{same_digits}
use Rattle.worth.specs.Worth.{passes_iban}
use Rattle.making.proofs.Texts.{all3}
use Rattle.worth.proofs.Tests.{one_of, other, never}
use Rattle.worth.proofs.Tables.{agree, agreed}
use Rattle.worth.proofs.Weights.{weighed, two, two_swapped}
use Rattle.worth.proofs.IbanForm.{iid_digit, digit_or_capital_lem, form_swapped}

-- two tests that are equal on all characters of an account, by a test computed over them
abbrev on36 : (ℕ → ℕ → Bool) → ℕ → ℕ → Bool
on36 f x y = digit_or_capital x && digit_or_capital y && f x y

told : (f g : ℕ → ℕ → Bool) → agree 91 (on36 f) (on36 g) ≡ true → (x y : ℕ) → digit_or_capital x ≡ true → digit_or_capital y ≡ true → f x y ≡ g x y
told f g e x y p q = rw (p, q) at (agreed 91 (on36 f) (on36 g) e x y (byte x p) (byte y q))
  where
    byte : (x : ℕ) → digit_or_capital x ≡ true → x < 91
    byte x e = one_of (digit x) (capital x) e (λ p. omega (arith, is_within 48 57 x p)) (λ p. omega (arith, is_within 65 90 x p))

-- no two characters stand for the same
values_told : agree 91 (on36 (λ x y. eqb (value x) (value y))) (on36 eqb) ≡ true
values_told = refl

-- two count the same in either order where they are equal, 1 and B, 2 and M, or 3 and X
abbrev orders : ℕ → ℕ → Bool
orders x y = eqb (two x y % 97) (two y x % 97)

orders_told : agree 91 (on36 orders) (on36 (λ x y. eqb x y || same_digits x y)) ≡ true
orders_told = refl

-- which are not both digits
digits_told : agree 91 (on36 (λ x y. digit x && digit y && same_digits x y)) (on36 (λ x y. false)) ≡ true
digits_told = refl

-- the first four characters, moved behind the others
moved : (a t : Bytes) → 4 ≤ length a → remainder97 (a ++ t) ≡ numeral 0 (drop 4 a ++ (t ++ take 4 a)) % 97
unfolding remainder97
moved a t h = rw (drop-append-le 4 a t h, take-append-le 4 a t h, append_assoc (drop 4 a) t (take 4 a))

-- the check asks for the remainder 1, and past the pair for nothing else
checked : (s : Bytes) → checks97 s ≡ true → remainder97 s ≡ 1
checked s c = eqb-true (remainder97 s) 1 ((all3 (leb 4 (length s)) (within 2 98 (numeral 0 (pair s))) _).0 c).2

checks_past : (a t u : Bytes) → 4 ≤ length a → checks97 (a ++ t) ≡ true → checks97 (a ++ u) ≡ eqb (remainder97 (a ++ u)) 1
checks_past a t u h c =
    let (_, w, _) = (all3 (leb 4 (length (a ++ t))) (within 2 98 (numeral 0 (pair (a ++ t)))) _).0 c in
    rw (le-leb 4 (length (a ++ u)) (omega (arith, length-append a u)), pair_of u, rw (pair_of t) at w)
  where
    pair_of : (t : Bytes) → pair (a ++ t) ≡ pair a
    pair_of t = rw (drop-append-le 2 a t (omega arith), take-append-le 2 (drop 2 a) t (simp length-drop (omega arith)))

-- two that pass, alike save in one place, and both digits there or neither, are alike there
pub one_iban : (a b : Bytes) (x y : ℕ) → passes_iban (a ++ (x ∷ b)) ≡ true → passes_iban (a ++ (y ∷ b)) ≡ true → 4 ≤ length a → digit x ≡ digit y → x ≡ y
one_iban a b x y e f h d =
    let (i, c) = (and-eq-true_iff (iban (a ++ (x ∷ b))) _).0 e in
    let (j, k) = (and-eq-true_iff (iban (a ++ (y ∷ b))) _).0 f in
    let r = sym (moved a (x ∷ b) h) ∙ checked (a ++ (x ∷ b)) c ∙ sym (checked (a ++ (y ∷ b)) k) ∙ moved a (y ∷ b) h in
    let v = (weighed (b ++ take 4 a) _ _ (value y) (value x) (one_changed 0 (drop 4 a) (b ++ take 4 a) x y d)).0 r in
    let w : value x ≡ value y = omega (arith, value_small x, value_small y) in
    let t = told (λ x y. eqb (value x) (value y)) eqb values_told x y (digit_or_capital_lem a b x i h) (digit_or_capital_lem a b y j h) in
    eqb-true x y (sym t ∙ eq-eqb (value x) (value y) w)

-- two neighbours swapped pass the check exactly where they count the same in either order
checks_swapped : (a b : Bytes) (x y : ℕ) → 4 ≤ length a → checks97 (a ++ (x ∷ y ∷ b)) ≡ true → checks97 (a ++ (y ∷ x ∷ b)) ≡ orders x y
checks_swapped a b x y h c =
    let u = remainder97 (a ++ (y ∷ x ∷ b)) in
    let s = sym (moved a (x ∷ y ∷ b) h) ∙ checked (a ++ (x ∷ y ∷ b)) c in
    let t = moved a (y ∷ x ∷ b) h in
    let (to, from) = weighed (b ++ take 4 a) _ _ (two y x) (two x y) (two_swapped 0 (drop 4 a) (b ++ take 4 a) x y) in
    checks_past a (x ∷ y ∷ b) (y ∷ x ∷ b) h c ∙
    alike _ _ (
      λ e. eq-eqb (two x y % 97) (two y x % 97) (sym (to (s ∙ sym (eqb-true u 1 e) ∙ t))),
      λ e. eq-eqb u 1 (t ∙ sym (from (sym (eqb-true (two x y % 97) (two y x % 97) e))) ∙ s),
    )

-- and unlike ones pass exactly where both stand past the IID and are 1 and B, 2 and M, or 3 and X
pub swapped_iban : (a b : Bytes) (x y : ℕ) → passes_iban (a ++ (x ∷ y ∷ b)) ≡ true → 4 ≤ length a → x ≢ y
    → passes_iban (a ++ (y ∷ x ∷ b)) ≡ leb 9 (length a) && same_digits x y
swapped_iban a b x y e h d = by_cases (leb 9 (length a)) refl
  where
    i : iban (a ++ (x ∷ y ∷ b)) ≡ true
    i = ((and-eq-true_iff _ _).0 e).0

    p : digit_or_capital x ≡ true
    p = digit_or_capital_lem a (y ∷ b) x i h

    agreeing : digit_or_capital y ≡ true → checks97 (a ++ (y ∷ x ∷ b)) ≡ same_digits x y
    agreeing q =
        checks_swapped a b x y h ((and-eq-true_iff (iban (a ++ (x ∷ y ∷ b))) _).0 e).1
        ∙ told orders (λ x y. eqb x y || same_digits x y) orders_told x y p q
        ∙ other (eqb x y) _ (ne_eqb x y d)

    by_cases : (t : Bool) → leb 9 (length a) ≡ t → passes_iban (a ++ (y ∷ x ∷ b)) ≡ t && same_digits x y
    by_cases true k =
        let j = form_swapped a b x y (leb-true 9 (length a) k) i in
        rw j (agreeing (digit_or_capital_lem a (x ∷ b) y j h))
    by_cases false k =
        never _
        (λ f.
        let (j, c) = (and-eq-true_iff (iban (a ++ (y ∷ x ∷ b))) _).0 f in
        let l = leb-false 9 (length a) k in
        let q = digit_or_capital_lem a (x ∷ b) y j h in
        let z = told (λ x y. digit x && digit y && same_digits x y) (λ x y. false) digits_told x y p q in
        false≢true (sym (rw (iid_digit a (y ∷ b) x i h l, iid_digit a (x ∷ b) y j h l) at z) ∙ sym (agreeing q) ∙ c))
