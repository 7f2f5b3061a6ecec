-- The pair of check digits that MOD 97-10 yields, for a head of two characters (a country, or RF) and the rest. Assumes nothing.
use Rattle.std.specs.Prelude.{ℕ, ◌+◌, ◌-◌, ◌/◌, ◌%◌, Bool, ◌&&◌, [], ◌∷◌, ◌++◌, eqb, length}
use Rattle.sieve.specs.Bytes.{Bytes, ascii, every}
use Rattle.sieve.specs.Letters.{digit}
use Rattle.sieve.specs.Mod97.{numeral}

abbrev pub two_digits : Bytes → Bool
two_digits p = eqb (length p) 2 && every digit p

-- a number below 100 as two digits
abbrev pub as_two : ℕ → Bytes
as_two n = (48 + n / 10) ∷ (48 + n % 10) ∷ []

-- 98 less the remainder of the rest, the head and 00
abbrev pub due_number : Bytes → Bytes → ℕ
due_number head rest = 98 - numeral 0 (rest ++ (head ++ ascii "00")) % 97

unfoldable pub due_pair : Bytes → Bytes → Bytes
due_pair head rest = as_two (due_number head rest)
