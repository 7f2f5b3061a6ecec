-- What the theorems ask of a set of allowed characters. Assumes nothing.
use Rattle.std.specs.Prelude.{ℕ, zero, suc, ◌∷◌, ◌++◌, ◌≢◌, ◌≡◌, length}
use Rattle.sieve.specs.Bytes.{Bytes}
use Rattle.sieve.specs.Characters.{Width}

-- the first n bytes are there, and none is LF or CR
pub data Unbroken : ℕ → Bytes → Type 0 where
  no_more : {s : Bytes} → Unbroken zero s
  one_more : {n x : ℕ} {s : Bytes} → x ≢ 10 → x ≢ 13 → Unbroken n s → Unbroken (suc n) (x ∷ s)

-- a line with no LF and no CR
abbrev pub Clean : Bytes → Type 0
Clean l = Unbroken (length l) l

pub record Lawful (w : Width) : Type 0 where
  -- an allowed character's bytes are there, and none is LF or CR
  pub unbroken : (s : Bytes) → Unbroken (w s) s
  -- its width depends on its own bytes: what stands after them does not matter
  pub own : (c s t : Bytes) (n : ℕ) → length c ≡ suc n → w (c ++ s) ≡ suc n → w (c ++ t) ≡ suc n
