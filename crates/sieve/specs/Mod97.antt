-- ISO 7064 MOD 97-10, for a text of any length. Assumes nothing.
use Rattle.std.specs.Prelude.{ℕ, ◌+◌, ◌-◌, ◌*◌, ◌%◌, Bool, cond, ◌&&◌, [], ◌∷◌, ◌++◌, eqb, leb, length, take, drop}
use Rattle.sieve.specs.Bytes.{Bytes, within}
use Rattle.sieve.specs.Letters.{digit, capital, small}

-- what a character stands for: a digit for itself, a letter for 10 to 35 (a small letter as its capital), any other byte for 0
abbrev pub value : ℕ → ℕ
value x = cond (digit x) (x - 48) (cond (capital x) (x - 55) (cond (small x) (x - 87) 0))

-- a decimal number with one character more, which takes one digit or two
abbrev pub onto : ℕ → ℕ → ℕ
onto n x = cond (digit x) 10 100 * n + value x

-- the decimal number n with a whole text more
unfoldable pub numeral : ℕ → Bytes → ℕ
numeral n [] = n
numeral n (x ∷ s) = numeral (onto n x) s

-- the first four characters moved to the end, read as one decimal number: its remainder by 97
unfoldable pub remainder97 : Bytes → ℕ
remainder97 s = numeral 0 (drop 4 s ++ take 4 s) % 97

-- the pair of check digits: the third and fourth characters
abbrev pub pair : Bytes → Bytes
pair s = take 2 (drop 2 s)

-- a text has a pair; the pair is one that ISO 7064 yields, 02 to 98; and the remainder is 1
abbrev pub checks97 : Bytes → Bool
checks97 s = leb 4 (length s) && within 2 98 (numeral 0 (pair s)) && eqb (remainder97 s) 1
