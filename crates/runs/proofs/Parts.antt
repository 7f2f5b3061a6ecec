-- The part of some bytes from a place to their end, and a test of every byte of parts. Assumes nothing.
use Prim.Native.Nat.{ℕ, ◌-◌, ◌≤◌}
use native.Mathlib.Omega.{arith}
use mathlib.Core.Bool.{Bool, true, ◌&&◌, and_assoc, and-eq-true_iff}
use mathlib.Core.List.{[], ◌∷◌, ◌++◌}
use mathlib.Core.Path.{◌≡◌, refl, sym, ap, ◌∙◌}
use lib.ListN.{length, take, drop, length-drop, take-append-drop}
use lib.Seq.{take_all}
use Rattle.sieve.specs.Bytes.{Bytes, every}

module _ (n : ℕ) (s : Bytes) where
  -- from place n on no more is left than n less than all
  pub left : length (drop n s) ≤ length s - n
  left = simp length-drop (omega arith)

  -- so the part from place n to the end is what is left
  pub rest : take (length s - n) (drop n s) ≡ drop n s
  rest = take_all (length s - n) (drop n s) left

module _ (f : ℕ → Bool) where
  -- a test of every byte of a text after a text
  pub every_append : (a b : Bytes) → every f (a ++ b) ≡ every f a && every f b
  every_append [] b = refl
  every_append (x ∷ a) b = rw (every_append a b) (sym (and_assoc (f x) (every f a) (every f b)))

  -- so of the first n bytes, and of those behind them
  pub every_parted : (n : ℕ) (s : Bytes) → every f s ≡ every f (take n s) && every f (drop n s)
  every_parted n s = ap (every f) (sym (take-append-drop n s)) ∙ every_append (take n s) (drop n s)

  pub every_part : (n : ℕ) (s : Bytes) → every f s ≡ true → (every f (take n s) ≡ true) × (every f (drop n s) ≡ true)
  every_part n s h = (and-eq-true_iff _ _).0 (sym (every_parted n s) ∙ h)

  -- bytes that pass a test pass one that asks less
  pub every_weaker : (g : ℕ → Bool) → ((x : ℕ) → f x ≡ true → g x ≡ true) → (s : Bytes) → every f s ≡ true → every g s ≡ true
  every_weaker g less [] h = refl
  every_weaker g less (x ∷ s) h = let (hx, hs) = (and-eq-true_iff _ _).0 h in (and-eq-true_iff _ _).1 (less x hx, every_weaker g less s hs)
