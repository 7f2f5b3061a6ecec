-- A QR reference made from 26 digits, not all zero, passes form and check, and no other with these digits does. Assumes nothing.
use Prim.Native.Nat.{ℕ}
use native.Mathlib.Omega.{arith}
use mathlib.Core.Bool.{Bool, true, false, ◌&&◌, not, and-eq-true_iff}
use mathlib.Core.List.{[], ◌∷◌, ◌++◌}
use mathlib.Core.Path.{◌≡◌, refl, sym, ◌∙◌}
use lib.Dec.{eqb}
use lib.ListN.{length, get_or, take, length-append}
use lib.Seq.{take_all, take_at, get_or_at, take-suc}
use borrow.Author.Tests.{eqb-true, eq-eqb, not-true}
use Rattle.sieve.specs.Bytes.{Bytes, every}
use Rattle.sieve.specs.Letters.{digit}
use Rattle.sieve.specs.Mod10.{carry, check_digit, checks10}
use Rattle.swiss.specs.Forms.{qrr}
use Rattle.mod10.proofs.Carries.{check_digit_is_digit}
use Rattle.sieve.specs.Only.{Only}
use Rattle.runs.proofs.Parts.{every_append}
use Rattle.making.specs.Made.{zeros, qrr_part, made_qrr, QrrOf}
use Rattle.making.proofs.Texts.{all3, is_just}

-- exactly one 27th digit passes after 26 bytes
pub one_digit : (s : Bytes) → length s ≡ 26 → Only (λ d. (digit d ≡ true) × (checks10 (s ++ (d ∷ [])) ≡ true)) (check_digit s)
one_digit s l =
    record {
      has = (check_digit_is_digit s, check_of (check_digit s) ∙ eq-eqb (check_digit s) (check_digit s) refl);
      alone = λ d k. eqb-true d (check_digit s) (sym (check_of d) ∙ k.1);
    }
  where
    check_of : (d : ℕ) → checks10 (s ++ (d ∷ [])) ≡ eqb d (check_digit s)
    check_of d = rw (get_or_at s d [] 0 26 l, take_at s (d ∷ []) 26 l)

-- 27 bytes are 26 and one more
pub last_apart : (t : Bytes) → length t ≡ 27 → t ≡ take 26 t ++ (get_or t 26 0 ∷ [])
last_apart t l = sym (take_all 27 t (omega arith)) ∙ take-suc t 26 0 (omega arith)

-- a digit after 26 digits that are not all zero
qrr_ended : (s : Bytes) (d : ℕ) → qrr_part s ≡ true → digit d ≡ true → qrr (s ++ (d ∷ [])) ≡ true
qrr_ended s d f e =
    let (j, z) = (and-eq-true_iff (eqb (length s) 26 && every digit s) _).0 f in
    let (l, a) = (is_just 26 digit s).0 j in
    (all3 _ _ _).1 (
      eq-eqb (length (s ++ (d ∷ []))) 27 (omega (arith, length-append s (d ∷ []))),
      rw (every_append digit s (d ∷ []), a, e),
      rw (every_append (λ x. eqb x 48) s (d ∷ []), not-true (zeros s) z),
    )

-- what passes is the 26 digits with the one that they ask for
qrr_ends : (s t : Bytes) → QrrOf s t → t ≡ made_qrr s
qrr_ends s t (e, f, c) =
    let (n, _, _) = (all3 _ _ _).0 f in
    last_apart t (eqb-true (length t) 27 n) ∙ rw (eqb-true (get_or t 26 0) (check_digit (take 26 t)) c, e)

-- exactly one QR reference passes for each 26 digits that are not all zero
pub one_qrr : (s : Bytes) → qrr_part s ≡ true → Only (QrrOf s) (made_qrr s)
one_qrr s f =
    let l = ((is_just 26 digit s).0 ((and-eq-true_iff (eqb (length s) 26 && every digit s) _).0 f).0).0 in
    let (e, c) = (one_digit s l).has in
    record { has = (take_at s (check_digit s ∷ []) 26 l, qrr_ended s (check_digit s) f e, c); alone = qrr_ends s }

-- zeros carry nothing
pub zeros_carry : (s : Bytes) → zeros s ≡ true → carry 0 s ≡ 0
unfolding carry
zeros_carry [] e = refl
zeros_carry (x ∷ s) e =
    let (z, a) = (and-eq-true_iff (eqb x 48) _).0 e in
    rw (eqb-true x 48 z) (zeros_carry s a)

-- so that zeros ask for one zero more
zeros_end : (s : Bytes) → not (zeros (made_qrr s)) ≡ true → not (zeros s) ≡ true
unfolding check_digit
zeros_end s z = by_cases (zeros s) refl
  where
    by_cases : (b : Bool) → zeros s ≡ b → not b ≡ true
    by_cases false e = refl
    by_cases true e = rw (every_append (λ x. eqb x 48) s (check_digit s ∷ []), e, zeros_carry s e) at z

-- what passes begins with 26 digits that are not all zero: from others nothing can be made
pub qrr_from : (s t : Bytes) → QrrOf s t → qrr_part s ≡ true
qrr_from s t k =
    let w = qrr_ends s t k in
    let (n, d, z) = (all3 _ _ _).0 (rw w at k.1) in
    let l = eqb-true (length (made_qrr s)) 27 n in
    (all3 _ _ _).1 (
      eq-eqb (length s) 26 (omega (arith, length-append s (check_digit s ∷ []))),
      ((and-eq-true_iff _ _).0 (sym (every_append digit s (check_digit s ∷ [])) ∙ d)).0,
      zeros_end s z,
    )
