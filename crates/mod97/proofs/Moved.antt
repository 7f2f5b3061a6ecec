-- MOD 97-10 by two readings: the text from its fifth character on is read, and after it the first four. Assumes nothing.
use Prim.Native.Nat.{ℕ, ◌-◌, ◌%◌, ◌≤◌, ◌<◌}
use native.Mathlib.Omega.{arith}
use mathlib.Core.Path.{◌≡◌, sym}
use lib.ListN.{length, take, drop, length-drop, drop_of_length-le}
use lib.Seq.{take_all}
use Rattle.sieve.specs.Bytes.{Bytes}
use Rattle.sieve.specs.Mod97.{numeral, remainder97}
use Rattle.sieve.proofs.Decimals.{number_after}
use Rattle.mod97.proofs.Remainders.{carried}

-- fewer than four characters: there is none to move them past
pub unmoved : (s : Bytes) → length s < 4 → numeral 0 s % 97 ≡ remainder97 s
unfolding remainder97
unmoved s h =
    let p : length s ≤ 4 = omega arith in
    rw (drop_of_length-le s p, take_all 4 s p)

-- two readings, the second after the remainder that the first leaves
pub moved_behind : (s : Bytes) (r : ℕ) → r ≡ numeral 0 (drop 4 s) % 97 → numeral r (take 4 s) % 97 ≡ remainder97 s
unfolding remainder97
moved_behind s r e = rw (e, number_after) (sym (carried (numeral 0 (drop 4 s)) (take 4 s)))

-- what is behind the four, as the part of the text that it is
pub moved : (s : Bytes) (r : ℕ) → r ≡ numeral 0 (take (length s - 4) (drop 4 s)) % 97 → numeral r (take 4 s) % 97 ≡ remainder97 s
moved s r e =
    let p : length (drop 4 s) ≤ length s - 4 = simp length-drop (omega arith) in
    moved_behind s r (rw (take_all (length s - 4) (drop 4 s) p) at e)
