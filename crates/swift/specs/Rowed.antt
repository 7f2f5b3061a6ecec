-- What a row holds while it is filled. Assumes nothing.
use Rattle.std.specs.Prelude.{ℕ, ◌+◌, ◌-◌, ◌*◌, ◌≤◌, ◌<◌, false, cond, ◌++◌, ◌≡◌, ltb, length, get_or, take, drop}
use Rattle.sieve.specs.Bytes.{Bytes}
use Rattle.swift.specs.declared.Filled.{Filled}
use Rattle.swift.specs.declared.Line.{Line}
use Rattle.swift.specs.declared.Row.{Row}
use Rattle.swift.specs.declared.FourRows.{FourRows}
use Rattle.swift.specs.Letters.{leads, laid_from, laid_line, replaced_from, replaced_in_line}
use Rattle.swift.specs.Portions.{line_most}

-- texts that are no longer than a bill
abbrev pub AreShort : Bytes → Bytes → Bytes → Type 0
AreShort a b c = (length a ≤ 1024) × (length b ≤ 1024) × (length c ≤ 1024)

-- its counts are in bounds
pub record RowFits (row : Row) : Type 0 where
  pub room : length row.bytes ≡ line_most
  pub few : row.length ≤ line_most
  pub fewer : row.replaced ≤ row.length

-- it holds the characters s, as they are laid behind others: the first is looked at once more when the row is laid
pub record RowHolds (row : Row) (s : Bytes) : Type 0 where
  pub laid : take row.length row.bytes ≡ laid_from false s
  pub size : row.length ≡ length s
  pub count : row.replaced ≡ replaced_from false s

-- a row became a line: what it holds, as it is laid on a line of its own
pub record IsLineBegun (row r : Row) : Type 0 where
  pub room : length r.bytes ≡ line_most
  pub size : r.length ≡ row.length
  pub fewer : r.replaced ≤ row.replaced + 1
  pub laid : (s : Bytes) → RowHolds row s → take row.length r.bytes ≡ laid_line s
  pub count : (s : Bytes) → RowHolds row s → r.replaced ≡ replaced_in_line s

-- the characters of a text from a place on were put behind those of a row: it holds the first 35 of both, and the rest is left
pub record IsFilled (row : Row) (text : Bytes) (from : ℕ) (r : Filled) : Type 0 where
  pub fillable : RowFits r.row
  pub within : r.at ≤ length text
  pub holds : (s : Bytes) → RowHolds row s → RowHolds r.row (take line_most (s ++ leads (drop from text)))
  pub left : (s : Bytes) → RowHolds row s → leads (drop r.at text) ≡ drop line_most (s ++ leads (drop from text))

-- of all characters s that were put on a line, it holds the first 35, and the others are cut
pub record Lined (line : Line) (s : Bytes) : Type 0 where
  pub held : RowHolds line.row (take line_most s)
  pub cut : line.cut ≡ length (drop line_most s)

-- a line's counts are in bounds
pub record SmallLine (line : Line) (most : ℕ) : Type 0 where
  pub fillable : RowFits line.row
  pub few : line.cut ≤ most

-- a line for the characters of a text, and in bounds
abbrev pub IsLineOf : Bytes → Line → ℕ → Type 0
IsLineOf text line most = SmallLine line most × Lined line (leads text)

-- the characters of a text were put on a line
pub record IsAdded (line : Line) (text : Bytes) (r : Line) : Type 0 where
  pub small : SmallLine r (line.cut + length text)
  pub lined : (s : Bytes) → Lined line s → Lined r (s ++ leads text)

-- the characters of row k, from 0, of the four of field 70: s before row `first`, and then those of the message in turn
abbrev pub row_text : ℕ → Bytes → Bytes → ℕ → Bytes
row_text first s message k = cond (ltb k first) s (take line_most (drop (line_most * (k - first)) message))

-- the four rows hold them, and the rest of the message is left
pub record IsRows (reference : Row) (first : ℕ) (text : Bytes) (r : FourRows) : Type 0 where
  pub within : r.at ≤ length text
  pub left : leads (drop r.at text) ≡ drop (line_most * (4 - first)) (leads text)
  pub held : (d : Row) (k : ℕ) → k < 4 → RowFits (get_or r.rows k d) × ((s : Bytes) → RowHolds reference s → RowHolds (get_or r.rows k d) (row_text first s (leads text) k))
