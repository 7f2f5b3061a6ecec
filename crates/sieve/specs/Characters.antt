-- Allowed characters, over any set of them, and the walk over characters and breaks. Assumes nothing.
use Rattle.std.specs.Prelude.{ℕ, zero, suc, ◌+◌, cond, ◌&&◌, [], ◌∷◌, ◌++◌, ◌≡◌, eqb, length, get_or}
use Rattle.std.proofs.Math.Option.{Option, some, none}
use Rattle.sieve.specs.Bytes.{Bytes, within}

-- how many bytes the allowed character has that begins here; 0 where none begins
abbrev pub Width : Type 0
Width = Bytes → ℕ

-- a run of allowed characters, one after the other, to the end
pub data Text (w : Width) : Bytes → Type 0 where
  none_left : Text w []
  character : (c s : Bytes) (n : ℕ) → length c ≡ suc n → w (c ++ s) ≡ suc n → Text w s → Text w (c ++ s)

-- how many characters it has
abbrev pub count : {w : Width} {s : Bytes} → Text w s → ℕ
count none_left = 0
count (character c s n e h t) = suc (count t)

-- how many bytes the break has that begins here, LF or CR directly followed by LF; 0 where none begins
unfoldable pub break_width : Width
break_width s = cond (eqb (get_or s 0 0) 10) 1 (cond (eqb (get_or s 0 0) 13 && eqb (get_or s 1 0) 10) 2 0)

-- how many bytes the character or break has that begins here
unfoldable pub passes : Width → Width
passes w s = cond (eqb (w s) 0) (break_width s) (w s)

-- walking on from place i, with `skip` bytes of a character or a break still to pass:
-- the first place where neither a character nor a break begins
unfoldable pub walk : Width → ℕ → Bytes → ℕ → Option ℕ
walk w skip [] i = none
walk w (suc k) (x ∷ s) i = walk w k s (suc i)
walk w zero (x ∷ s) i = elim (passes w (x ∷ s)) [ suc n ↦ walk w n s (suc i) | zero ↦ some i ]

unfoldable pub bad_place : Width → Bytes → Option ℕ
bad_place w s = walk w 0 s 0

-- bytes other than 80 to BF: of text of 01's characters, as many as it has characters (`latin_counts`)
unfoldable pub characters : Bytes → ℕ
characters [] = 0
characters (x ∷ s) = cond (within 0x80 0xBF x) 0 1 + characters s

unfoldable pub line_feeds : Bytes → ℕ
line_feeds [] = 0
line_feeds (x ∷ s) = cond (eqb x 10) 1 0 + line_feeds s
