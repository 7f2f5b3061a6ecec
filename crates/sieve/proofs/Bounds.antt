-- What tests say: what a range bounds, that texts are equal; and a case of two. Assumes nothing.
use Prim.Native.Nat.{ℕ, ◌≤◌}
use mathlib.Core.Bool.{Bool, true, false, true≢false, cond, and-eq-true_iff}
use mathlib.Core.List.{[], ◌∷◌}
use mathlib.Core.Path.{◌≡◌, refl, sym}
use borrow.Author.Tests.{leb-true, eqb-true}
use Rattle.sieve.specs.Bytes.{Bytes, within, same}

pub is_within : (lo hi n : ℕ) → within lo hi n ≡ true → (lo ≤ n) × (n ≤ hi)
is_within lo hi n h = let (a, b) = (and-eq-true_iff _ _).0 h in (leb-true _ _ a, leb-true _ _ b)

pub same_is : (s t : Bytes) → same s t ≡ true → s ≡ t
same_is [] [] h = refl
same_is [] (y ∷ t) h = absurd (true≢false (sym h))
same_is (x ∷ s) [] h = absurd (true≢false (sym h))
same_is (x ∷ s) (y ∷ t) h = let (hx, hs) = (and-eq-true_iff _ _).0 h in rw (eqb-true x y hx, same_is s t hs)

-- a case of two is at most what each is at most where it is taken
pub case_at_most : (n : ℕ) (b : Bool) {x y : ℕ} → (b ≡ true → x ≤ n) → y ≤ n → cond b x y ≤ n
case_at_most n true h k = h refl
case_at_most n false h k = k
