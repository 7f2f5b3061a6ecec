-- Reading a text from its front, byte by byte, into one number: one step, the end, and a text after a text. Assumes nothing.
use Prim.Native.Nat.{ℕ, ◌+◌, ◌≤◌, ◌<◌}
use native.Mathlib.Numerals.{add-one}
use mathlib.Core.List.{[], ◌∷◌, ◌++◌}
use mathlib.Core.Path.{◌≡◌}
use lib.ListN.{length, get_or, drop, drop_of_length-le}
use lib.Seq.{drop-cons}
use Rattle.sieve.specs.Bytes.{Bytes}

-- f reads a text from its front: a byte x turns the number n into g n x
pub record Fold (f : ℕ → Bytes → ℕ) (g : ℕ → ℕ → ℕ) : Type 0 where
  pub nothing : (n : ℕ) → f n [] ≡ n
  pub one_more : (n x : ℕ) (s : Bytes) → f n (x ∷ s) ≡ f (g n x) s

module _ {f : ℕ → Bytes → ℕ} {g : ℕ → ℕ → ℕ} (fold : Fold f g) where
  pub step : (n : ℕ) (s : Bytes) (i : ℕ) → i < length s → f n (drop i s) ≡ f (g n (get_or s i 0)) (drop (i + 1) s)
  step n s i h = rw (add-one, drop-cons s i 0) (fold.one_more n (get_or s i 0) _)

  pub end : (n : ℕ) (s : Bytes) (i : ℕ) → length s ≤ i → f n (drop i s) ≡ n
  end n s i h = rw (drop_of_length-le s h) (fold.nothing n)

  pub after : (n : ℕ) (a b : Bytes) → f n (a ++ b) ≡ f (f n a) b
  after n [] b = rw fold.nothing
  after n (x ∷ a) b = rw (fold.one_more n x (a ++ b), fold.one_more n x a) (after (g n x) a b)
