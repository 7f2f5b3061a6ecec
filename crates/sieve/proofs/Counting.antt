-- Of text of 01's characters, bytes other than 80 to BF are as many as characters. Assumes nothing.
use Prim.Native.Nat.{ℕ, suc, ◌≤◌, ◌<◌}
use native.Mathlib.Nat.{suc-ne-zero}
use native.Mathlib.Omega.{arith}
use mathlib.Core.Bool.{Bool, true, false, cond, ◌&&◌, ◌||◌, and-false, and-eq-true_iff}
use mathlib.Core.List.{[], ◌∷◌, ◌++◌}
use mathlib.Core.Path.{◌≡◌, refl, sym, ◌∙◌, ap}
use lib.Dec.{eqb}
use lib.ListN.{length, get_or}
use borrow.Author.Tests.{eqb-true, le-leb, lt-leb}
use Rattle.sieve.specs.Bytes.{Bytes, within}
use Rattle.sieve.specs.Characters.{Text, none_left, character, count, characters}
use Rattle.sieve.proofs.Bounds.{is_within}
use Rattle.sieve.specs.Latin.{in_one, in_two, in_three, latin}
use Rattle.sieve.proofs.Latin.{one_told, two_told}

abbrev later : ℕ → Bool
later = within 0x80 0xBF

below : (x : ℕ) → x < 0x80 → later x ≡ false
below x h = rw (lt-leb 0x80 x h)

above : (x : ℕ) → 0xBF < x → later x ≡ false
above x h = rw (lt-leb x 0xBF h, and-false)

inside : (y : ℕ) → 0x80 ≤ y → y ≤ 0xBF → later y ≡ true
inside y h k = rw (le-leb 0x80 y h, le-leb y 0xBF k)

-- which of three tests is passed
data One (a b c : Bool) : Type 0 where
  first : a ≡ true → One a b c
  second : b ≡ true → One a b c
  third : c ≡ true → One a b c

one : (a b c : Bool) → (a || b || c) ≡ true → One a b c
one true b c h = first refl
one false true c h = second refl
one false false c h = third h

-- of two bytes the first is past BF, and the second is one of 80 to BF
two : (x y : ℕ) → in_two x y ≡ true → (later x ≡ false) × (later y ≡ true)
two x y h = by_cases (one _ _ _ h)
  where
    by_cases : One (eqb x 0xC2 && within 0xA0 0xBF y) (within 0xC3 0xC5 x && within 0x80 0xBF y) (eqb x 0xC8 && within 0x98 0x9B y) → (later x ≡ false) × (later y ≡ true)
    by_cases (first h) =
        let (a, b) = (and-eq-true_iff (eqb x 0xC2) _).0 h in
        let e = eqb-true x 0xC2 a in
        let (c, d) = is_within 0xA0 0xBF y b in (above x (omega arith), inside y (omega arith) (omega arith))
    by_cases (second h) =
        let (a, b) = (and-eq-true_iff (within 0xC3 0xC5 x) _).0 h in
        let (c, d) = is_within 0xC3 0xC5 x a in (above x (omega arith), b)
    by_cases (third h) =
        let (a, b) = (and-eq-true_iff (eqb x 0xC8) _).0 h in
        let e = eqb-true x 0xC8 a in
        let (c, d) = is_within 0x98 0x9B y b in (above x (omega arith), inside y (omega arith) (omega arith))

three : (x y z : ℕ) → in_three x y z ≡ true → (later x ≡ false) × (later y ≡ true) × (later z ≡ true)
three x y z h =
    let (a, c) = (and-eq-true_iff (eqb x 0xE2 && eqb y 0x82) _).0 h in
    let (a, b) = (and-eq-true_iff (eqb x 0xE2) _).0 a in
    rw (eqb-true x 0xE2 a, eqb-true y 0x82 b, eqb-true z 0xAC c) (refl, refl, refl)

-- a width of 3 is told by the third test, and there is no greater width

three_told : (a b c : Bool) → ◌≡◌ {A = ℕ} (cond a 1 (cond b 2 (cond c 3 0))) 3 → c ≡ true
three_told true b c h = absurd (omega arith)
three_told false true c h = absurd (omega arith)
three_told false false true h = refl
three_told false false false h = absurd (omega arith)

at_most_three : (a b c : Bool) → cond a 1 (cond b 2 (cond c 3 0)) ≤ 3
at_most_three true b c = omega arith
at_most_three false true c = omega arith
at_most_three false false true = omega arith
at_most_three false false false = omega arith

-- a character more is one more
one_more : (c s : Bytes) (n : ℕ) → length c ≡ suc n → latin (c ++ s) ≡ suc n → characters (c ++ s) ≡ suc (characters s)
unfolding latin characters
one_more [] s n e h = absurd (suc-ne-zero n (sym e))
one_more (x ∷ []) s n e h =
    let a = one_told (in_one x) (in_two x (get_or s 0 0)) (in_three x (get_or s 0 0) (get_or s 1 0)) (h ∙ sym e) in
    let (lo, hi) = is_within 0x20 0x7E x a in rw (below x (omega arith)) (omega arith)
one_more (x ∷ y ∷ []) s n e h =
    let (a, b) = two x y (two_told (in_one x) (in_two x y) (in_three x y (get_or s 0 0)) (h ∙ sym e)).1 in rw (a, b) (omega arith)
one_more (x ∷ y ∷ z ∷ []) s n e h =
    let (a, b, c) = three x y z (three_told (in_one x) (in_two x y) (in_three x y z) (h ∙ sym e)) in rw (a, b, c) (omega arith)
one_more (x ∷ y ∷ z ∷ u ∷ c) s n e h = absurd (omega (arith, at_most_three (in_one x) (in_two x y) (in_three x y z)))

pub latin_counts : {l : Bytes} (t : Text latin l) → characters l ≡ count t
unfolding characters
latin_counts none_left = refl
latin_counts (character c s n e h t) = one_more c s n e h ∙ ap suc (latin_counts t)
