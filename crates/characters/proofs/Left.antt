-- The marks that are left of some bytes: where the first is, and what is left behind it. Assumes nothing.
use Prim.Native.Nat.{ℕ, zero, suc, ◌+◌, ◌*◌, ◌%◌, ◌^◌, ◌≤◌, ◌<◌}
use native.Mathlib.Nat.{zero-mul, mul_comm, mul-le-mul_right, le_of_suc-le-suc, pow-suc}
use native.Mathlib.Omega.{arith}
use mathlib.Core.Bool.{Bool, true, false}
use mathlib.Core.List.{[], ◌∷◌}
use mathlib.Core.Logic.{◌≢◌}
use mathlib.Core.Path.{◌≡◌, refl, sym, ap, ◌∙◌}
use lib.Count.{count_trailing_zeros}
use lib.ListN.{length, get_or, drop, length-drop}
use lib.Pow.{pow_pos, pow-add}
use lib.Seq.{drop-drop, get_or-drop}
use Rattle.sieve.specs.Bytes.{Bytes}
use Rattle.sieve.specs.Latin.{in_one}
use Rattle.characters.specs.Marks.{marks_of, without_first}
use Rattle.characters.proofs.Lowest.{lowest, without}

-- the first mark of some bytes: those before it are characters by themselves
record First (t : Bytes) : Type 0 where
  pub place : ℕ
  pub within : place < length t
  pub is : marks_of t ≡ (marks_of (drop (suc place) t) * 2 + 1) * 2 ^ place
  pub plain : (i : ℕ) → i < place → in_one (get_or t i 0) ≡ true

first : (t : Bytes) → marks_of t ≢ 0 → First t
unfolding marks_of
first [] h = absurd (h refl)
first (x ∷ s) h = by_cases (in_one x) refl (first s)
  where
    by_cases : (b : Bool) → in_one x ≡ b → (marks_of s ≢ 0 → First s) → First (x ∷ s)
    by_cases false e behind = record { place = 0; within = omega arith; is = rw e (omega arith); plain = λ i k. absurd (omega arith) }
    by_cases true e behind =
        let f = behind (λ z. h (rw (e, z) refl)) in
        record { place = suc f.place; within = omega (arith, f.within); is = rw (e, pow-suc 2 f.place) (omega (arith, ap (λ (n : ℕ). n * 2) f.is)); plain = among f }
      where
        among : (f : First s) (i : ℕ) → i < suc f.place → in_one (get_or (x ∷ s) i 0) ≡ true
        among f zero k = e
        among f (suc i) k = f.plain i (le_of_suc-le-suc k)

-- bytes without a mark are characters by themselves
none : (t : Bytes) → marks_of t ≡ 0 → (i : ℕ) → i < length t → in_one (get_or t i 0) ≡ true
unfolding marks_of
none [] e i h = absurd (omega arith)
none (x ∷ s) e i h = by_cases (in_one x) refl i h (none s)
  where
    by_cases : (b : Bool) → in_one x ≡ b → (i : ℕ) → i < length (x ∷ s) → (marks_of s ≡ 0 → (j : ℕ) → j < length s → in_one (get_or s j 0) ≡ true) → in_one (get_or (x ∷ s) i 0) ≡ true
    by_cases false f i h later = absurd (omega (arith, rw f at e))
    by_cases true f zero h later = f
    by_cases true f (suc i) h later = later (omega (arith, e)) i (le_of_suc-le-suc h)

-- a shifted number is 0 only if the number is
no_mark : (m i : ℕ) → m * 2 ^ i ≡ 0 → m ≡ 0
no_mark m i e = omega (arith, mul-le-mul_right m (pow_pos i), mul_comm (2 ^ i) m)

-- the marks that are left of some bytes from the one at `from` on
abbrev pub Left : ℕ → ℕ → Bytes → Type 0
Left left from t = left ≡ marks_of (drop from t) * 2 ^ from

-- where the first of them is
pub record Found (left from : ℕ) (t : Bytes) : Type 0 where
  pub steps : ℕ
  pub within : from + steps < length t
  pub at : count_trailing_zeros 32 left ≡ from + steps
  pub plain : (i : ℕ) → i < steps → in_one (get_or t (from + i) 0) ≡ true
  pub later : Left (without_first left) (from + steps + 1) t

pub found : (left from : ℕ) (t : Bytes) → length t ≤ 32 → Left left from t → 0 < left → Found left from t
found left from t few l h = by_first (first (drop from t) (λ e. let z : left ≡ 0 = l ∙ rw e (zero-mul _) in omega arith))
  where
    by_first : First (drop from t) → Found left from t
    by_first f =
        let k = f.place in
        let size = length-drop from t in
        let behind : from + k + 1 ≡ from + suc k = omega arith in
        let later : ℕ = marks_of (drop (from + k + 1) t) in
        let rest : marks_of (drop (suc k) (drop from t)) ≡ later = rw (behind, drop-drop (suc k) from t) refl in
        let is : left ≡ (later * 2 + 1) * 2 ^ (from + k) = l ∙ ap (λ (n : ℕ). n * 2 ^ from) (f.is ∙ ap (λ (n : ℕ). (n * 2 + 1) * 2 ^ k) rest) ∙ rw (pow-add 2 from k) (omega arith) in
        let odd : (later * 2 + 1) % 2 ≡ 1 = omega arith in
        record {
          steps = k;
          within = omega (arith, f.within);
          at = ap (count_trailing_zeros 32) is ∙ lowest 32 (later * 2 + 1) (from + k) odd (omega (arith, f.within));
          plain = λ i p. rw get_or-drop at (f.plain i p);
          later = ap without_first is ∙ without later (from + k) (omega (arith, f.within)) ∙ rw (pow-add 2 (from + k) 1) (omega arith);
        }

-- where none is left, the bytes are characters by themselves
pub none_left : (from : ℕ) (t : Bytes) → Left 0 from t → (i : ℕ) → from + i < length t → in_one (get_or t (from + i) 0) ≡ true
none_left from t l i h = rw get_or-drop at (none (drop from t) (no_mark (marks_of (drop from t)) from (sym l)) i (omega (arith, length-drop from t)))
