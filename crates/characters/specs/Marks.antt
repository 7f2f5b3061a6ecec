-- The marks of bytes that are no character by themselves. Assumes nothing.
use Rattle.std.specs.Prelude.{ℕ, ◌+◌, ◌-◌, ◌*◌, ◌^◌, cond, [], ◌∷◌}
use Rattle.std.specs.Int.Count.{count_trailing_zeros}
use Rattle.sieve.specs.Bytes.{Bytes}
use Rattle.sieve.specs.Latin.{in_one}

-- a bit for each byte, the first byte's the lowest: 0 for a character by itself, 1 for any other byte
unfoldable pub marks_of : Bytes → ℕ
marks_of [] = 0
marks_of (x ∷ s) = marks_of s * 2 + cond (in_one x) 0 1

-- marks without the first: a number without the lowest of its bits
abbrev pub without_first : ℕ → ℕ
without_first marks = marks - 2 ^ count_trailing_zeros 32 marks
