-- Slips of the one who types, and the swaps that check digits do not show. Places in a text are counted from 0. Assumes nothing.
use Rattle.std.specs.Prelude.{ℕ, ◌+◌, ◌-◌, ◌%◌, Bool, ◌&&◌, ◌||◌, ◌∷◌, ◌++◌, eqb, leb, get_or, take, drop}
use Rattle.sieve.specs.Bytes.{Bytes}
use Rattle.sieve.specs.Letters.{digit, capital, small}
use Rattle.sieve.specs.Mod10.{carry}

-- a wrong key: a text with the byte y at place i
abbrev pub changed : ℕ → ℕ → Bytes → Bytes
changed i y s = take i s ++ (y ∷ drop (i + 1) s)

-- two keys swapped: a text with the bytes at places i and i + 1 in the other order
abbrev pub swapped : ℕ → Bytes → Bytes
swapped i s = take i s ++ (get_or s (i + 1) 0 ∷ get_or s i 0 ∷ drop (i + 2) s)

abbrev pub is_letter : ℕ → Bool
is_letter x = capital x || small x

-- two digits, or two letters
abbrev pub same_kind : ℕ → ℕ → Bool
same_kind x y = (digit x && digit y) || (is_letter x && is_letter y)

-- u and v are a and b, in either order
abbrev pub either_order : ℕ → ℕ → ℕ → ℕ → Bool
either_order a b u v = (eqb u a && eqb v b) || (eqb u b && eqb v a)

-- the carry c plus each of the digits x and y gives 4 and 7 modulo 10, in either order
abbrev pub four_and_seven : ℕ → ℕ → ℕ → Bool
four_and_seven c x y = either_order 4 7 ((c + (x - 48)) % 10) ((c + (y - 48)) % 10)

-- the digits at places i and i + 1 of a QR reference are such, with the carry before them: swapped, they lead to the same carry
abbrev pub unseen_in_qrr : ℕ → Bytes → Bool
unseen_in_qrr i s = four_and_seven (carry 0 (take i s)) (get_or s i 0) (get_or s (i + 1) 0)

-- 1 and B, 2 and M, 3 and X, in either order: B stands for 11, M for 22 and X for 33, so that both orders are read as 111, 222 or 333
abbrev pub same_digits : ℕ → ℕ → Bool
same_digits x y = either_order 49 66 x y || either_order 50 77 x y || either_order 51 88 x y

-- the characters at places i and i + 1 of an IBAN are such, and both stand past the IID, which ends with character 9
abbrev pub unseen_in_iban : ℕ → Bytes → Bool
unseen_in_iban i s = leb 9 i && same_digits (get_or s i 0) (get_or s (i + 1) 0)
