-- The number that an amount stands for. Assumes nothing.
use Rattle.std.specs.Prelude.{ℕ, ◌-◌, ◌++◌, take, drop, length}
use Rattle.sieve.specs.Bytes.{Bytes}
use Rattle.sieve.specs.Mod97.{numeral}

-- an amount in cents: its digits, without the point, read as one number
unfoldable pub cents : Bytes → ℕ
cents s = numeral 0 (take (length s - 3) s ++ drop (length s - 2) s)
