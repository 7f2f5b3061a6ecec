-- The carries of modulo 10, recursive, are below 10, their table twice in a row spares a remainder, and the check digit is a digit. Assumes nothing.
use Prim.Native.Nat.{ℕ, zero, suc, ◌+◌, ◌-◌, ◌%◌, ◌≤◌, ◌<◌}
use native.Mathlib.Nat.{mod-eq_of_lt}
use native.Mathlib.Omega.{arith}
use mathlib.Core.Bool.{Bool, true, false, and-eq-true_iff}
use mathlib.Core.List.{[], ◌∷◌, ◌++◌}
use mathlib.Core.Path.{◌≡◌, refl, ap, ◌∙◌}
use lib.Dec.{ltb}
use lib.ListN.{length, get_or, drop, get_or-append}
use lib.Seq.{get_or-append-add}
use borrow.Author.Tests.{ltb-true, ltb-false, le-leb}
use Rattle.sieve.specs.Bytes.{Bytes, within, every}
use Rattle.sieve.specs.Mod10.{next_carry, carry, check_digit}
use Rattle.sieve.proofs.Folds.{Fold, step, end, after}

-- the carry c after the byte x
abbrev pub next_after : ℕ → ℕ → ℕ
next_after c x = get_or next_carry ((c + (x - 48)) % 10) 0

pub carries : Fold carry next_after
unfolding carry
carries = record { nothing = λ c. refl; one_more = λ c x s. refl }

-- a test that each entry of a table passes, and 0, is passed at each place
at : (f : ℕ → Bool) (s : Bytes) (k : ℕ) → f 0 ≡ true → every f s ≡ true → f (get_or s k 0) ≡ true
at f [] k z e = z
at f (x ∷ s) zero z e = ((and-eq-true_iff (f x) _).0 e).0
at f (x ∷ s) (suc k) z e = at f s k z ((and-eq-true_iff (f x) _).0 e).1

-- the table's rule: each entry is a carry, below 10
pub next_small : (k : ℕ) → get_or next_carry k 0 < 10
next_small k = ltb-true _ 10 (at (λ x. ltb x 10) next_carry k refl refl)

-- the table twice in a row: at a sum below 20 stands what stands at its remainder by 10
pub twice : (k : ℕ) → k < 20 → get_or (next_carry ++ next_carry) k 0 ≡ get_or next_carry (k % 10) 0
twice k h = by_cases (ltb k 10) refl
  where
    by_cases : (b : Bool) → ltb k 10 ≡ b → get_or (next_carry ++ next_carry) k 0 ≡ get_or next_carry (k % 10) 0
    by_cases true e =
        let l = ltb-true k 10 e in
        get_or-append next_carry next_carry 0 k l ∙ rw (mod-eq_of_lt l)
    by_cases false e =
        let l = ltb-false k 10 e in
        let d : k ≡ 10 + (k - 10) = omega (arith, l) in
        let m : k - 10 ≡ k % 10 = omega (arith, l) in
        ap (λ (n : ℕ). get_or (next_carry ++ next_carry) n 0) d
        ∙ get_or-append-add next_carry next_carry (k - 10) 0
        ∙ ap (λ (n : ℕ). get_or next_carry n 0) m

-- after i bytes of s the carry is c, and what is left asks for the same
pub record Carried (s : Bytes) (c i : ℕ) : Type 0 where
  pub few : i ≤ length s
  pub small : c < 10
  pub same : carry 0 s ≡ carry c (drop i s)

module _ {s : Bytes} {c i : ℕ} (so_far : Carried s c i) where
  pub one_carried : {r : ℕ} → i < length s → r ≡ next_after c (get_or s i 0) → Carried s r (i + 1)
  one_carried h e =
      rw e record {
        few = omega arith;
        small = next_small ((c + (get_or s i 0 - 48)) % 10);
        same = so_far.same ∙ step carries c s i h;
      }

  pub all_carried : {r : ℕ} → length s ≤ i → r ≡ 48 + (10 - c) % 10 → r ≡ check_digit s
  unfolding check_digit
  all_carried h e = rw (e, so_far.same, end carries c s i h)

-- one run of digits after another
pub carry_appended : (c : ℕ) (a b : Bytes) → carry c (a ++ b) ≡ carry (carry c a) b
carry_appended c a b = after carries c a b

pub carry_small : (c : ℕ) (s : Bytes) → c < 10 → carry c s < 10
unfolding carry
carry_small c [] h = h
carry_small c (x ∷ s) h = carry_small (next_after c x) s (next_small ((c + (x - 48)) % 10))

pub check_digit_is_digit : (s : Bytes) → within 48 57 (check_digit s) ≡ true
unfolding check_digit
check_digit_is_digit s = rw (le-leb 48 (check_digit s) (omega arith), le-leb (check_digit s) 57 (omega arith))
