-- What the lines that are laid keep, whatever they were made of. Assumes nothing.
use Rattle.std.specs.Prelude.{ℕ, ◌+◌, ◌≤◌, ◌<◌, Bool, true, false, ◌||◌, List, [], ◌∷◌, ◌≡◌, length, get_or}
use Rattle.sieve.specs.Bytes.{Bytes, every}
use Rattle.sieve.specs.Lines.{of_break}
use Rattle.swift.specs.declared.Counts.{Counts}
use Rattle.swift.specs.Letters.{in_x, barred}
use Rattle.swift.specs.Portions.{Portion, line_most, on_lines, kept_in, laid_in, cut_in, replaced_in}

-- a line has 1 to 35 characters, all of the x set, and begins with no colon or hyphen
pub record Lays (l : Bytes) : Type 0 where
  pub some : 1 ≤ length l
  pub few : length l ≤ line_most
  pub letters : every in_x l ≡ true
  pub begins : barred (get_or l 0 0) ≡ false

-- of the x set, CR or LF
abbrev pub layable : ℕ → Bool
layable x = in_x x || of_break x

-- how many characters a field has before it is cut
unfoldable pub characters_of : List Portion → ℕ
characters_of [] = 0
characters_of (q ∷ qs) = length q.text + characters_of qs

-- how many lines there are for it
unfoldable pub lines_for : List Portion → ℕ
lines_for [] = 0
lines_for (q ∷ qs) = q.lines + lines_for qs

-- a text is laid whole, as it is, on a line of its own
pub record LaidWhole (s : Bytes) : Type 0 where
  pub laid : laid_in (on_lines 1 s ∷ []) ≡ s ∷ []
  pub uncut : cut_in (on_lines 1 s ∷ []) ≡ 0
  pub unreplaced : replaced_in (kept_in (on_lines 1 s ∷ [])) ≡ 0

-- counts that 16 bits hold
pub record AreSmall (c : Counts) : Type 0 where
  pub beneficiary : c.beneficiary < 65536
  pub transaction : c.transaction < 65536
  pub remittance : c.remittance < 65536
  pub cut : c.cut < 65536
  pub replaced : c.replaced < 65536
