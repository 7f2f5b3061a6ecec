-- Digits and letters, as bytes. Assumes nothing.
use Rattle.std.specs.Prelude.{ℕ, Bool, ◌||◌}
use Rattle.sieve.specs.Bytes.{within}

abbrev pub digit : ℕ → Bool
digit x = within 48 57 x

abbrev pub capital : ℕ → Bool
capital x = within 65 90 x

abbrev pub small : ℕ → Bool
small x = within 97 122 x

-- 0-9 A-Z
abbrev pub digit_or_capital : ℕ → Bool
digit_or_capital x = digit x || capital x

-- 0-9 A-Z a-z
abbrev pub alphanumeric : ℕ → Bool
alphanumeric x = digit_or_capital x || small x
