-- Numbers in decimal digits. Assumes nothing.
use Rattle.std.specs.Prelude.{ℕ, zero, suc, ◌+◌, ◌/◌, ◌%◌, cond, [], ◌∷◌, ◌++◌, ltb}
use Rattle.sieve.specs.Bytes.{Bytes}

abbrev pub digit_byte : ℕ → ℕ
digit_byte d = 48 + d

-- a number of at most so many digits, with no zeros in front: those of its tenth part, then the last one
unfoldable pub decimal_in : ℕ → ℕ → Bytes
decimal_in zero n = []
decimal_in (suc k) n = cond (ltb n 10) (digit_byte n ∷ []) (decimal_in k (n / 10) ++ (digit_byte (n % 10) ∷ []))
