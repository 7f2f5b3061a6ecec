-- Modulo 10, recursive: the check digit that ends a QR reference. Assumes nothing.
use Rattle.std.specs.Prelude.{ℕ, ◌+◌, ◌-◌, ◌%◌, Bool, List, [], ◌∷◌, eqb, get_or, take}
use Rattle.sieve.specs.Bytes.{Bytes}

abbrev pub next_carry : List ℕ
next_carry = 0 ∷ 9 ∷ 4 ∷ 6 ∷ 8 ∷ 2 ∷ 7 ∷ 1 ∷ 3 ∷ 5 ∷ []

-- the carry after a run of digits, beginning with carry c
unfoldable pub carry : ℕ → Bytes → ℕ
carry c [] = c
carry c (x ∷ s) = carry (get_or next_carry ((c + (x - 48)) % 10) 0) s

-- the check digit, as a byte, that a run of digits asks for
unfoldable pub check_digit : Bytes → ℕ
check_digit s = 48 + (10 - carry 0 s) % 10

-- the 27th digit is the one that the first 26 ask for
abbrev pub checks10 : Bytes → Bool
checks10 s = eqb (get_or s 26 0) (check_digit (take 26 s))
