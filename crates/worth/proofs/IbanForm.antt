-- The form of an IBAN at each place past its check digits. Assumes nothing.
use Prim.Native.Nat.{ℕ, ◌≤◌, ◌<◌}
use native.Mathlib.Omega.{arith}
use mathlib.Core.Bool.{Bool, true, false}
use mathlib.Core.List.{◌∷◌, ◌++◌}
use mathlib.Core.Path.{◌≡◌, refl, sym, ◌∙◌}
use lib.Dec.{leb}
use lib.ListN.{length, take, drop, length-append, length-drop}
use lib.Seq.{get_or-append_seam, take-append-le, drop-append-le, take_all}
use borrow.Author.Tests.{eqb-true, eq-eqb, leb-true, leb-false}
use Rattle.sieve.specs.Bytes.{Bytes, every}
use Rattle.sieve.specs.Letters.{digit, digit_or_capital}
use Rattle.swiss.specs.Forms.{iban}
use Rattle.sieve.proofs.EachPlace.{each_place_of}
use Rattle.making.proofs.Texts.{all4}
use Rattle.worth.proofs.Texts.{every_swapped, length_swapped}

-- the form from the third character on
pub formed : (s : Bytes) → iban s ≡ true → (length s ≡ 21) × (every digit (take 7 (drop 2 s)) ≡ true) × (every digit_or_capital (take 12 (drop 9 s)) ≡ true)
formed s e = let (n, _, d, r) = (all4 _ _ _ _).0 e in (eqb-true (length s) 21 n, d, r)

module _ (a b : Bytes) (x : ℕ) (e : iban (a ++ (x ∷ b)) ≡ true) (h : 4 ≤ length a) where
  -- a digit in the IID
  pub iid_digit : length a < 9 → digit x ≡ true
  iid_digit k =
      let (l, d, _) = formed (a ++ (x ∷ b)) e in
      rw (get_or-append_seam a x b 0) at ((each_place_of digit 2 9 (a ++ (x ∷ b)) (omega arith) (omega arith)).0 d (length a) (omega arith) (omega arith))

  -- a digit or a capital there and past it
  pub digit_or_capital_lem : digit_or_capital x ≡ true
  digit_or_capital_lem = by_cases (leb 9 (length a)) refl
    where
      by_cases : (t : Bool) → leb 9 (length a) ≡ t → digit_or_capital x ≡ true
      by_cases false k = rw (iid_digit (leb-false 9 (length a) k))
      by_cases true k =
          let j = leb-true 9 (length a) k in
          let (l, _, r) = formed (a ++ (x ∷ b)) e in
          rw (get_or-append_seam a x b 0) at
          ((each_place_of digit_or_capital 9 21 (a ++ (x ∷ b)) (omega arith) (omega arith)).0 r (length a) (omega arith) (omega (arith, length-append a (x ∷ b))))

-- two neighbours past the IID, swapped, keep the form
pub form_swapped : (a b : Bytes) (x y : ℕ) → 9 ≤ length a → iban (a ++ (x ∷ y ∷ b)) ≡ true → iban (a ++ (y ∷ x ∷ b)) ≡ true
form_swapped a b x y h e =
    let s = a ++ (x ∷ y ∷ b) in
    let t = a ++ (y ∷ x ∷ b) in
    let (n, c, d, r) = (all4 _ _ _ _).0 e in
    let l = eqb-true (length s) 21 n in
    let m : length t ≡ 21 = sym (length_swapped a b x y) ∙ l in
    let p : take 2 s ≡ take 2 t = rw (take-append-le 2 a (x ∷ y ∷ b) (omega arith), take-append-le 2 a (y ∷ x ∷ b) (omega arith)) in
    let j : 7 ≤ length (drop 2 a) = simp length-drop (omega arith) in
    let q : take 7 (drop 2 s) ≡ take 7 (drop 2 t) =
    rw (drop-append-le 2 a (x ∷ y ∷ b) (omega arith), drop-append-le 2 a (y ∷ x ∷ b) (omega arith), take-append-le 7 (drop 2 a) (x ∷ y ∷ b) j, take-append-le 7 (drop 2 a) (y ∷ x ∷ b) j) in
    let u : every digit_or_capital (take 12 (drop 9 s)) ≡ every digit_or_capital (take 12 (drop 9 t)) =
    rw (take_all 12 (drop 9 s) (simp length-drop (omega arith)), take_all 12 (drop 9 t) (simp length-drop (omega arith)), drop-append-le 9 a (x ∷ y ∷ b) h, drop-append-le 9 a (y ∷ x ∷ b) h)
    (every_swapped digit_or_capital (drop 9 a) b x y) in
    (all4 _ _ _ _).1 (eq-eqb (length t) 21 m, rw p at c, rw q at d, sym u ∙ r)

-- what stands past the IID does not change it
pub same_iid : (a t u : Bytes) → 9 ≤ length a → take 5 (drop 4 (a ++ t)) ≡ take 5 (drop 4 (a ++ u))
same_iid a t u h =
    let j : 5 ≤ length (drop 4 a) = simp length-drop (omega arith) in
    rw (drop-append-le 4 a t (omega arith), drop-append-le 4 a u (omega arith), take-append-le 5 (drop 4 a) t j, take-append-le 5 (drop 4 a) u j)
