-- How many characters some bytes count for. Assumes nothing.
use Prim.Native.Nat.{ℕ, zero, suc, ◌+◌, ◌≤◌, ◌<◌}
use native.Mathlib.Omega.{arith}
use mathlib.Core.Bool.{Bool, true, false, cond, and-false}
use mathlib.Core.List.{[], ◌∷◌}
use mathlib.Core.Path.{◌≡◌}
use lib.ListN.{length, get_or, take, drop, drop_of_length-le}
use borrow.Author.Tests.{le-leb, lt-leb}
use Rattle.sieve.specs.Bytes.{Bytes, within}
use Rattle.sieve.specs.Characters.{characters}
use Rattle.sieve.proofs.Bounds.{case_at_most}
use Rattle.runs.proofs.ByteByByte.{next}

-- a byte counts for at most one
pub characters_few : (s : Bytes) → characters s ≤ length s
unfolding characters
characters_few [] = omega arith
characters_few (x ∷ s) = omega (arith, case_at_most 1 (within 0x80 0xBF x) {x = 0} {y = 1} (λ e. omega arith) (omega arith), characters_few s)

-- the characters of the first k bytes, and of those behind them, are all
pub characters_parted : (k : ℕ) (s : Bytes) → characters s ≡ characters (take k s) + characters (drop k s)
unfolding characters
characters_parted zero s = omega arith
characters_parted (suc k) [] = omega arith
characters_parted (suc k) (x ∷ s) = omega (arith, characters_parted k s)

-- a byte of 80 to BF begins no character, and any other byte begins one
module _ (s : Bytes) (i : ℕ) (here : i < length s) where
  byte_by_byte : (b : Bool) → within 0x80 0xBF (get_or s i 0) ≡ b → characters (drop i s) ≡ cond b 0 1 + characters (drop (i + 1) s)
  unfolding characters
  byte_by_byte b e = rw (next s i here, e)

  pub going_on : 0x80 ≤ get_or s i 0 → get_or s i 0 ≤ 0xBF → characters (drop i s) ≡ characters (drop (i + 1) s)
  going_on low high = omega (arith, byte_by_byte true (rw (le-leb _ _ low, le-leb _ _ high)))

  pub low_begins : get_or s i 0 < 0x80 → characters (drop i s) ≡ 1 + characters (drop (i + 1) s)
  low_begins low = byte_by_byte false (rw (lt-leb _ _ low))

  pub high_begins : 0xBF < get_or s i 0 → characters (drop i s) ≡ 1 + characters (drop (i + 1) s)
  high_begins high = byte_by_byte false (rw (lt-leb _ _ high, and-false))

pub none_begins : (s : Bytes) (i : ℕ) → length s ≤ i → characters (drop i s) ≡ 0
unfolding characters
none_begins s i h = rw (drop_of_length-le s h)
