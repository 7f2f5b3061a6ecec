-- The steps that mend a payload, one after the other, and what each has taken. Assumes nothing.
use Rattle.std.specs.Prelude.{ℕ, suc, ◌+◌, Bool, true, cond, ◌&&◌, ◌||◌, [], ◌∷◌, eqb, leb}
use Rattle.sieve.specs.Bytes.{Bytes, every}
use Rattle.sieve.specs.Lines.{begins_lf}
use Rattle.swiss.specs.Limits.{fewest_lines}

abbrev pub is_lf : ℕ → Bool
is_lf x = eqb x 10

abbrev pub is_space : ℕ → Bool
is_space x = eqb x 32

-- a byte before s, of which t is made: a CR before LF goes, another becomes LF
abbrev pub as_feed : ℕ → Bytes → Bytes → Bytes
as_feed x s t = cond (eqb x 13) (cond (begins_lf s) t (10 ∷ t)) (x ∷ t)

-- 1: each CR LF, lone CR or lone LF becomes LF
unfoldable pub as_lf : Bytes → Bytes
as_lf [] = []
as_lf (x ∷ s) = as_feed x s (as_lf s)

-- the byte x before t, unless it is a space that goes
abbrev pub without_space : Bool → ℕ → Bytes → Bytes
without_space goes x t = cond (is_space x && goes) t (x ∷ t)

-- nothing but spaces up to a break, or up to the payload's end
unfoldable pub padding : Bytes → Bool
padding [] = true
padding (x ∷ s) = cond (is_space x) (padding s) (is_lf x)

-- 2: spaces that end a line, just before a break or the payload's end, go
unfoldable pub unpadded : Bytes → Bytes
unpadded [] = []
unpadded (x ∷ s) = without_space (padding s) x (unpadded s)

-- the line after the byte x of line i
abbrev pub line_after : ℕ → ℕ → ℕ
line_after i x = cond (is_lf x) (suc i) i

-- lines that have no spaces within: the account and the reference
abbrev pub spaceless : ℕ → Bool
spaceless i = eqb i 4 || eqb i 29

-- 3: spaces within lines 4 and 29 go, from line i on
unfoldable pub unspaced : ℕ → Bytes → Bytes
unspaced i [] = []
unspaced i (x ∷ s) = without_space (spaceless i) x (unspaced (line_after i x) s)

-- 4: empty last lines past line 31 go, from line i on: nothing but breaks is left
unfoldable pub shortened : ℕ → Bytes → Bytes
shortened i [] = []
shortened i (x ∷ s) = cond (leb fewest_lines i && every is_lf (x ∷ s)) [] (x ∷ shortened (line_after i x) s)

-- a payload after steps 1 to 3, and after all four
abbrev pub despaced : Bytes → Bytes
despaced p = unspaced 1 (unpadded (as_lf p))

abbrev pub reworked : Bytes → Bytes
reworked p = shortened 1 (despaced p)

-- how many bytes are x
unfoldable pub how_many : ℕ → Bytes → ℕ
how_many x [] = 0
how_many x (y ∷ s) = cond (eqb y x) 1 0 + how_many x s

-- how many CR are directly followed by LF
unfoldable pub cr_lfs : Bytes → ℕ
cr_lfs [] = 0
cr_lfs (x ∷ s) = cond (eqb x 13 && begins_lf s) 1 0 + cr_lfs s
