-- The allowed characters of the Swiss bill (001, 4.1.1), as bytes. Assumes nothing.
use Rattle.std.specs.Prelude.{ℕ, Bool, cond, ◌&&◌, ◌||◌, eqb, get_or}
use Rattle.sieve.specs.Bytes.{within}
use Rattle.sieve.specs.Characters.{Width}

-- 20 to 7E
abbrev pub in_one : ℕ → Bool
in_one x = within 0x20 0x7E x

-- C2 then A0 to BF; C3, C4 or C5 then 80 to BF; C8 then 98 to 9B
abbrev pub in_two : ℕ → ℕ → Bool
in_two x y = (eqb x 0xC2 && within 0xA0 0xBF y) || (within 0xC3 0xC5 x && within 0x80 0xBF y) || (eqb x 0xC8 && within 0x98 0x9B y)

-- E2 82 AC
abbrev pub in_three : ℕ → ℕ → ℕ → Bool
in_three x y z = eqb x 0xE2 && eqb y 0x82 && eqb z 0xAC

-- how many bytes the character takes that begins with x y z; 0 where none does
abbrev pub taking : ℕ → ℕ → ℕ → ℕ
taking x y z = cond (in_one x) 1 (cond (in_two x y) 2 (cond (in_three x y z) 3 0))

unfoldable pub latin : Width
latin s = taking (get_or s 0 0) (get_or s 1 0) (get_or s 2 0)
