-- What stands before a text counts so many times more. Assumes nothing.
use Rattle.std.specs.Prelude.{ℕ, ◌*◌, cond, [], ◌∷◌}
use Rattle.sieve.specs.Bytes.{Bytes}
use Rattle.sieve.specs.Letters.{digit}

-- 10 for each digit of a text and 100 for each other character, multiplied
unfoldable pub weight : Bytes → ℕ
weight [] = 1
weight (x ∷ s) = cond (digit x) 10 100 * weight s
