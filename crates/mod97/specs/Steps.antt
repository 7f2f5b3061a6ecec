-- The rule of a table of steps by MOD 97-10: at ten times the remainder r plus the digit d stands (10 r + d) % 97. Assumes nothing.
use Rattle.std.specs.Prelude.{ℕ, suc, ◌%◌, Bool, ◌&&◌, [], ◌∷◌, eqb}
use Rattle.sieve.specs.Bytes.{Bytes}

-- each entry is the remainder by 97 of its place, where places are counted from k, up to place 969
unfoldable pub remainders : ℕ → Bytes → Bool
remainders k [] = eqb k 970
remainders k (x ∷ t) = eqb x (k % 97) && remainders (suc k) t
