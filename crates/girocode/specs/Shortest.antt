-- The shortest text of a value, which has a digit before any point, and what it means that a text stands for a value. Assumes nothing.
use Rattle.std.specs.Prelude.{ℕ, ◌*◌, ◌/◌, ◌%◌, ◌^◌, ◌≤◌, true, cond, [], ◌∷◌, ◌++◌, ◌≡◌, eqb, length}
use Rattle.sieve.specs.Bytes.{Bytes, ascii, every}
use Rattle.sieve.specs.Decimal.{digit_byte, decimal_in}
use Rattle.sieve.specs.Letters.{digit}
use Rattle.sieve.specs.Mod97.{numeral}
use Rattle.girocode.specs.Limits.{euro}

-- what stands behind whole euros for cents below 100: nothing, or a point and one digit, or a point and two, the last not 0
abbrev pub behind : ℕ → Bytes
behind n = cond (eqb n 0) [] (46 ∷ digit_byte (n / 10) ∷ cond (eqb (n % 10) 0) [] (digit_byte (n % 10) ∷ []))

-- a value in cents: EUR, whole euros in at most nine digits with no zeros in front, then what stands behind them
unfoldable pub shortest : ℕ → Bytes
shortest n = ascii euro ++ (decimal_in 9 (n / 100) ++ behind (n % 100))

-- the digits behind a point, and what stands behind whole euros: nothing, or a point and digits, also none
pub data Ending : Bytes → Bytes → Type 0 where
  no_point : Ending [] []
  point : (f : Bytes) → every digit f ≡ true → Ending f (46 ∷ f)

-- a text stands for n cents
pub record StandsFor (n : ℕ) (s : Bytes) : Type 0 where
  -- EUR, one or more digits, and what stands behind them
  pub whole : Bytes
  pub whole_digits : every digit whole ≡ true
  pub some : 1 ≤ length whole
  pub fraction : Bytes
  pub ending : Bytes
  pub ends : Ending fraction ending
  pub text : s ≡ ascii euro ++ (whole ++ ending)
  -- the digits' number, with as many of them behind the point, is n hundredths
  pub value : 100 * numeral 0 (whole ++ fraction) ≡ n * 10 ^ length fraction
