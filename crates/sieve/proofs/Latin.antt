-- The Swiss characters are lawful, and one that begins below C2 has one byte. Assumes nothing.
use Prim.Native.Nat.{ℕ, suc, ◌<◌}
use native.Mathlib.Nat.{suc-ne-zero}
use native.Mathlib.Omega.{arith}
use mathlib.Core.Bool.{Bool, true, false, true≢false, false≢true, cond, and-false}
use mathlib.Core.List.{[], ◌∷◌, ◌++◌}
use mathlib.Core.Logic.{◌≢◌}
use mathlib.Core.Path.{◌≡◌, refl, sym, ◌∙◌, ap}
use borrow.Author.Tests.{lt-leb, ne_eqb}
use lib.ListN.{length, get_or}
use Rattle.sieve.specs.Bytes.{Bytes}
use Rattle.sieve.specs.Lawful.{Unbroken, no_more, one_more, Lawful}
use Rattle.sieve.specs.Latin.{in_one, in_two, in_three, latin}

-- a test that one byte passes and another does not tells them apart
differs : (f : ℕ → Bool) {x y : ℕ} → f x ≡ true → f y ≡ false → x ≢ y
differs f h g e = true≢false (sym h ∙ ap f e ∙ g)

one : (s : Bytes) → in_one (get_or s 0 0) ≡ true → Unbroken 1 s
one [] h = absurd (false≢true h)
one (x ∷ s) h = one_more (differs in_one h refl) (differs in_one h refl) no_more

two : (s : Bytes) → in_two (get_or s 0 0) (get_or s 1 0) ≡ true → Unbroken 2 s
two [] h = absurd (false≢true h)
two (x ∷ []) h = absurd (false≢true (simp and-false at h))
two (x ∷ y ∷ s) h =
    one_more (differs (λ x. in_two x y) h refl) (differs (λ x. in_two x y) h refl)
    (one_more (differs (in_two x) h (simp and-false)) (differs (in_two x) h (simp and-false)) no_more)

three : (s : Bytes) → in_three (get_or s 0 0) (get_or s 1 0) (get_or s 2 0) ≡ true → Unbroken 3 s
three [] h = absurd (false≢true h)
three (x ∷ []) h = absurd (false≢true (simp and-false at h))
three (x ∷ y ∷ []) h = absurd (false≢true (simp and-false at h))
three (x ∷ y ∷ z ∷ s) h =
    one_more (differs (λ x. in_three x y z) h refl) (differs (λ x. in_three x y z) h refl)
    (one_more (differs (λ y. in_three x y z) h (simp and-false)) (differs (λ y. in_three x y z) h (simp and-false))
    (one_more (differs (in_three x y) h (simp and-false)) (differs (in_three x y) h (simp and-false)) no_more))

unbroken : (a b c : Bool) (s : Bytes) → (a ≡ true → Unbroken 1 s) → (b ≡ true → Unbroken 2 s) → (c ≡ true → Unbroken 3 s) → Unbroken (cond a 1 (cond b 2 (cond c 3 0))) s
unbroken true b c s f g h = f refl
unbroken false true c s f g h = g refl
unbroken false false true s f g h = h refl
unbroken false false false s f g h = no_more

-- a width of 1 is told by the first byte, and a width of 2 by the first two
pub one_told : (a b c : Bool) → ◌≡◌ {A = ℕ} (cond a 1 (cond b 2 (cond c 3 0))) 1 → a ≡ true
one_told true b c h = refl
one_told false true c h = absurd (omega arith)
one_told false false true h = absurd (omega arith)
one_told false false false h = absurd (omega arith)

pub two_told : (a b c : Bool) → ◌≡◌ {A = ℕ} (cond a 1 (cond b 2 (cond c 3 0))) 2 → (a ≡ false) × (b ≡ true)
two_told true b c h = absurd (omega arith)
two_told false true c h = (refl, refl)
two_told false false true h = absurd (omega arith)
two_told false false false h = absurd (omega arith)

own : (c s t : Bytes) (n : ℕ) → length c ≡ suc n → latin (c ++ s) ≡ suc n → latin (c ++ t) ≡ suc n
unfolding latin
own [] s t n e h = absurd (suc-ne-zero n (sym e))
own (x ∷ []) s t n e h = rw (one_told (in_one x) (in_two x (get_or s 0 0)) (in_three x (get_or s 0 0) (get_or s 1 0)) (h ∙ sym e)) e
own (x ∷ y ∷ []) s t n e h = let (a, b) = two_told (in_one x) (in_two x y) (in_three x y (get_or s 0 0)) (h ∙ sym e) in rw (a, b) e
own (x ∷ y ∷ z ∷ c) s t n e h = h

pub lawful : Lawful latin
unfolding latin
lawful = record { unbroken = λ s. unbroken _ _ _ s (one s) (two s) (three s); own = own }

-- a character that begins below C2 has one byte
pub low : (s : Bytes) → get_or s 0 0 < 0xC2 → latin s ≡ cond (in_one (get_or s 0 0)) 1 0
unfolding latin
low s h =
    let x = get_or s 0 0 in
    rw (ne_eqb x 0xC2 (λ e. omega arith), lt-leb 0xC3 x (omega arith), ne_eqb x 0xC8 (λ e. omega arith), ne_eqb x 0xE2 (λ e. omega arith))
