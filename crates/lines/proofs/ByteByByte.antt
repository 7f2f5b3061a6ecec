-- What loops that go byte by byte lean on: the first byte that passes a test. Assumes nothing.
use Prim.Native.Nat.{ℕ, ◌+◌, ◌<◌}
use native.Mathlib.Numerals.{add-one}
use native.Mathlib.Omega.{arith}
use mathlib.Core.Bool.{Bool, true, false}
use mathlib.Core.Option.{some}
use mathlib.Core.Path.{◌≡◌, sym, ap}
use lib.ListN.{length, get_or, drop}
use borrow.Author.Tests.{ne_eqb}
use Rattle.sieve.specs.Bytes.{Bytes, first_such}
use Rattle.sieve.specs.Lines.{of_break}
use Rattle.runs.proofs.ByteByByte.{next}

-- the first byte that passes a test: it is the one at the place, or it is looked for after it
module _ (f : ℕ → Bool) (s : Bytes) (i : ℕ) (h : i < length s) where
  pub such_here : f (get_or s i 0) ≡ true → first_such f i (drop i s) ≡ some i
  unfolding first_such
  such_here e = rw (next s i h, e, first_such)

  pub such_later : f (get_or s i 0) ≡ false → first_such f i (drop i s) ≡ first_such f (i + 1) (drop (i + 1) s)
  unfolding first_such
  such_later e = rw (next s i h, e, first_such) (ap (λ (n : ℕ). first_such f n (drop (i + 1) s)) (sym (add-one i)))

-- a byte above CR is neither CR nor LF
pub above_breaks : (x : ℕ) → 13 < x → of_break x ≡ false
above_breaks x h = rw (ne_eqb x 10 (λ e. omega arith), ne_eqb x 13 (λ e. omega arith))
