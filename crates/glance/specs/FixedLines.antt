-- Where line 4 starts, behind the fixed texts of lines 1 to 3, and what ends a line. Assumes nothing.
use Rattle.std.specs.Prelude.{ℕ, ◌+◌, ◌<◌, ◌≡◌, Option, MatchOption, Bool, cond, ◌&&◌, not, [], ◌∷◌, eqb, get_or, drop}
use Rattle.sieve.specs.Bytes.{Bytes, ascii}
use Rattle.sieve.specs.Characters.{break_width}
use Rattle.swiss.specs.Limits.{qr_type, version, coding}

-- of bytes that begin at place `at`: where they go on behind a break in front of them; 0 where none is
unfoldable pub behind_break : ℕ → Bytes → ℕ
behind_break at s = cond (eqb (get_or s 0 0) 10) (at + 1) (cond (eqb (get_or s 0 0) 13 && eqb (get_or s 1 0) 10) (at + 2) 0)

-- where they go on behind a text in front of them and the break after it; 0 where either is not there
unfoldable pub gone_past : Bytes → ℕ → Bytes → ℕ
gone_past [] at s = behind_break at s
gone_past (x ∷ t) at [] = 0
gone_past (x ∷ t) at (y ∷ s) = cond (eqb y x) (gone_past t (at + 1) s) 0

-- one text more, unless those before it are not there
abbrev pub then_behind : Bytes → Bytes → ℕ → ℕ
then_behind s t at = cond (eqb at 0) 0 (gone_past t at (drop at s))

-- where line 4 starts, if lines 1 to 3 are the fixed texts and a break ends each; else 0
unfoldable pub fourth_start : Bytes → ℕ
fourth_start s = then_behind s (ascii coding) (then_behind s (ascii version) (gone_past (ascii qr_type) 0 s))

-- what stands behind a line ends it: a break, or nothing where there are no more bytes
unfoldable pub ends_with : Bytes → Bool → Bool
ends_with [] more = not more
ends_with (x ∷ s) more = not (eqb (break_width (x ∷ s)) 0)

-- such a place, as code answers it: none where it is 0
abbrev pub IsTold : ℕ → Option ℕ → Type 0
IsTold place result = MatchOption result (place ≡ 0) (λ at. (at ≡ place) × (0 < at))
