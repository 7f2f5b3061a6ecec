-- Two QR references, alike save in one digit or in the order of two neighbours. Assumes nothing.
use Prim.Native.Nat.{ℕ, ◌+◌, ◌-◌, ◌%◌}
use native.Mathlib.Omega.{arith}
use mathlib.Core.Bool.{Bool, true, false, not, and-eq-true_iff, false≢true}
use mathlib.Core.List.{[], ◌∷◌, ◌++◌}
use mathlib.Core.Logic.{◌≢◌}
use mathlib.Core.Path.{◌≡◌, refl, sym, ap, ◌∙◌}
use lib.Dec.{eqb}
use lib.ListN.{length, get_or, take}
use borrow.Author.Tests.{eqb-true, eq-eqb}
use Rattle.sieve.specs.Bytes.{Bytes, every}
use Rattle.sieve.specs.Letters.{digit}
use Rattle.sieve.specs.Mod10.{carry, check_digit, checks10}
use Rattle.swiss.specs.Forms.{qrr}
use Rattle.sieve.proofs.Alphabets.{alike}
use Rattle.sieve.proofs.Bounds.{is_within}
use Rattle.sieve.proofs.EachPlace.{each_place}
use Rattle.mod10.proofs.Carries.{next_after, next_small, carry_small, carry_appended}
use Rattle.worth.specs.Slips.{four_and_seven}
use Rattle.worth.specs.Worth.{passes_qrr}
use Rattle.making.proofs.Texts.{all3}
use Rattle.making.proofs.OneQrr.{last_apart, zeros_carry}
use Rattle.worth.proofs.Tests.{never}
use Rattle.worth.proofs.Texts.{every_behind, every_changed, every_swapped, length_swapped, length_changed}
use Rattle.worth.proofs.NextCarries.{to_0, carry_one, digit_one, pair_one}

-- the digit that a run of digits asks for is the one that leaves no carry
ended : (t : Bytes) (d : ℕ) → digit d ≡ true → eqb d (check_digit t) ≡ eqb (carry 0 (t ++ (d ∷ []))) 0
unfolding carry check_digit
ended t d e =
    let c = carry 0 t in
    let b = is_within 48 57 d e in
    let h = carry_small 0 t (omega arith) in
    let k : carry 0 (t ++ (d ∷ [])) ≡ next_after c d = carry_appended 0 t (d ∷ []) in
    rw k
    (alike _ _ (
      λ p.
          let q = eqb-true d _ p in
          let z : (c + (d - 48)) % 10 ≡ 0 = omega arith in
          rw z,
      λ p.
          let z = to_0 c d (eqb-true _ 0 p) in
          eq-eqb d _ (omega arith),
    ))

-- 27 digits pass the check where they leave no carry
checks_carry : (s : Bytes) → length s ≡ 27 → every digit s ≡ true → checks10 s ≡ eqb (carry 0 s) 0
checks_carry s l e =
    ended (take 26 s) (get_or s 26 0) ((each_place digit s).0 e 26 (omega arith)) ∙ ap (λ (t : Bytes). eqb (carry 0 t) 0) (sym (last_apart s l))

pub passed : (s : Bytes) → passes_qrr s ≡ true → (length s ≡ 27) × (every digit s ≡ true) × (carry 0 s ≡ 0)
passed s e =
    let (f, c) = (and-eq-true_iff (qrr s) _).0 e in
    let (n, d, _) = (all3 _ _ _).0 f in
    let l = eqb-true (length s) 27 n in
    (l, d, eqb-true (carry 0 s) 0 (sym (checks_carry s l d) ∙ c))

-- two runs of digits that leave no carry, alike save in one place, are alike there
one_run : (a b : Bytes) (x y : ℕ) → every digit (a ++ (x ∷ b)) ≡ true → carry 0 (a ++ (x ∷ b)) ≡ 0 → every digit (a ++ (y ∷ b)) ≡ true → carry 0 (a ++ (y ∷ b)) ≡ 0 → x ≡ y
unfolding carry
one_run a b x y p g q h =
    let c = carry 0 a in
    digit_one c x y (every_behind digit a b x p) (every_behind digit a b y q)
    (carry_one (next_after c x) (next_after c y) b (next_small ((c + (x - 48)) % 10)) (next_small ((c + (y - 48)) % 10))
    (sym (carry_appended 0 a (x ∷ b)) ∙ g ∙ sym h ∙ carry_appended 0 a (y ∷ b)))

-- so are two that pass
pub one_qrr : (a b : Bytes) (x y : ℕ) → passes_qrr (a ++ (x ∷ b)) ≡ true → passes_qrr (a ++ (y ∷ b)) ≡ true → x ≡ y
one_qrr a b x y e f =
    let (_, p, g) = passed (a ++ (x ∷ b)) e in
    let (_, q, h) = passed (a ++ (y ∷ b)) f in
    one_run a b x y p g q h

-- zeros leave no carry, so that one that passes, with another byte at one place, keeps its form exactly where that byte is a digit
pub form_changed : (a b : Bytes) (x y : ℕ) → passes_qrr (a ++ (x ∷ b)) ≡ true → x ≢ y → qrr (a ++ (y ∷ b)) ≡ digit y
form_changed a b x y e d = by_cases (digit y) refl
  where
    by_cases : (c : Bool) → digit y ≡ c → qrr (a ++ (y ∷ b)) ≡ c
    by_cases false h = never _ (λ f. false≢true (sym h ∙ every_behind digit a b y ((all3 (eqb (length (a ++ (y ∷ b))) 27) (every digit (a ++ (y ∷ b))) _).0 f).1))
    by_cases true h =
        let (l, p, g) = passed (a ++ (x ∷ b)) e in
        let q = every_changed digit a b x y p h in
        (all3 _ _ _).1 (
          eq-eqb (length (a ++ (y ∷ b))) 27 (sym (length_changed a b x y) ∙ l),
          q,
          ap not (never _ (λ z. d (one_run a b x y p g q (zeros_carry (a ++ (y ∷ b)) z)))),
        )

-- two neighbours swapped keep the form
pub form_swapped : (a b : Bytes) (x y : ℕ) → qrr (a ++ (x ∷ y ∷ b)) ≡ qrr (a ++ (y ∷ x ∷ b))
form_swapped a b x y = rw (length_swapped a b x y, every_swapped digit a b x y, every_swapped (λ z. eqb z 48) a b x y)

-- and unlike ones pass exactly where the carry before them and each of them give 4 and 7
pub swapped_qrr : (a b : Bytes) (x y : ℕ) → passes_qrr (a ++ (x ∷ y ∷ b)) ≡ true → x ≢ y → passes_qrr (a ++ (y ∷ x ∷ b)) ≡ four_and_seven (carry 0 a) x y
unfolding carry
swapped_qrr a b x y e d =
    let s = a ++ (x ∷ y ∷ b) in
    let t = a ++ (y ∷ x ∷ b) in
    let c = carry 0 a in
    let m = next_after (next_after c x) y in
    let n = next_after (next_after c y) x in
    let (l, g, z) = passed s e in
    let h : every digit t ≡ true = sym (every_swapped digit a b x y) ∙ g in
    let w : qrr t ≡ true = sym (form_swapped a b x y) ∙ ((and-eq-true_iff (qrr s) _).0 e).0 in
    let p = pair_one c x y (every_behind digit a (y ∷ b) x g) (every_behind digit a (x ∷ b) y h) d in
    let u : carry 0 s ≡ carry m b = carry_appended 0 a (x ∷ y ∷ b) in
    let v : carry 0 t ≡ carry n b = carry_appended 0 a (y ∷ x ∷ b) in
    let one = carry_one m n b (next_small ((next_after c x + (y - 48)) % 10)) (next_small ((next_after c y + (x - 48)) % 10)) in
    rw (w, checks_carry t (sym (length_swapped a b x y) ∙ l) h)
    (alike _ _ (
      λ k. sym p ∙ eq-eqb m n (one (sym u ∙ z ∙ sym (eqb-true (carry 0 t) 0 k) ∙ v)),
      λ k. eq-eqb (carry 0 t) 0 (v ∙ sym (ap (λ (r : ℕ). carry r b) (eqb-true m n (p ∙ k))) ∙ sym u ∙ z),
    ))
