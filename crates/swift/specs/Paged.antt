-- What a page of lines holds while it is laid. Assumes nothing.
use Rattle.std.specs.Prelude.{ℕ, zero, suc, ◌+◌, ◌*◌, ◌≤◌, ◌<◌, List, [], ◌∷◌, ◌++◌, map, ◌≡◌, length, get_or, take}
use Rattle.std.proofs.Math.Option.{none}
use Rattle.std.specs.Borrow.{Bor, MutBor}
use denote.Triple.Both.{Both}
use Rattle.sieve.specs.declared.Break.TheVariants.{CrLf}
use Rattle.sieve.specs.Bytes.{Bytes}
use Rattle.sieve.specs.Lines.{cut, lines_of}
use Rattle.sieve.specs.Pointing.{before_breaks}
use Rattle.sieve.specs.Rules.{line}
use Rattle.sieve.specs.Verdict.{findings, first}
use Rattle.swiss.specs.declared.Edition.{Edition}
use Rattle.swiss.specs.Swiss.{swiss_in}
use Rattle.swift.specs.declared.Counts.{Counts}
use Rattle.swift.specs.declared.Draft.{Draft}
use Rattle.swift.specs.declared.Line.{Line}
use Rattle.swift.specs.declared.Page.{Page}
use Rattle.swift.specs.declared.Row.{Row}
use Rattle.swift.specs.Letters.{leads, laid_line}
use Rattle.swift.specs.Portions.{rows, Portion, on_lines, kept_in, cut_in, replaced_in}
use Rattle.swift.specs.Fields.{remittance_of, contents, counts_of}
use Rattle.swift.specs.Rowed.{RowFits, RowHolds, Lined}

-- its counts are in bounds: a line takes at most 35 bytes and CR LF
pub record Roomy (page : Page) : Type 0 where
  pub bytes : page.at ≤ 37 * page.lines
  pub fewer : page.replaced ≤ 36 * page.lines

-- a page with nothing on it
abbrev pub blank : Page
blank = record { at = 0; lines = 0; replaced = 0; cut = 0 }

-- a draft of such a page, with room for ten lines
pub record IsBlank (draft : Draft) : Type 0 where
  pub size : length draft.room ≡ 370
  pub page : draft.page ≡ blank

-- a page with room for a line more, on a buffer for ten lines
pub record Ready (buffer : Bytes) (page : Page) : Type 0 where
  pub size : length buffer ≡ 370
  pub roomy : Roomy page
  pub more : page.lines < 10

-- the page holds these lines, each with CR LF after it
pub record Paged (buffer : Bytes) (page : Page) (ls : List Bytes) : Type 0 where
  pub laid : take page.at buffer ≡ before_breaks CrLf (map laid_line ls)
  pub size : page.at ≡ length (before_breaks CrLf (map laid_line ls))
  pub lines : page.lines ≡ length ls
  pub replaced : page.replaced ≡ replaced_in ls

-- the characters of a row were laid on a line of their own, if there are any
pub record IsLaid (buffer : Bytes) (page : Page) (row : Row) (after : Bytes) (r : Page) : Type 0 where
  pub size : length after ≡ length buffer
  pub roomy : Roomy r
  pub more : r.lines ≤ page.lines + 1
  pub cut : r.cut ≡ page.cut
  pub paged : (ls : List Bytes) (s : Bytes) → Paged buffer page ls → RowHolds row s → Paged after r (ls ++ rows 1 s)

-- the page holds the lines of these portions, and what was cut of them is counted
pub record Sheet (buffer : Bytes) (page : Page) (qs : List Portion) : Type 0 where
  pub paged : Paged buffer page (kept_in qs)
  pub cut : page.cut ≡ cut_in qs

-- a line was laid: a portion for one line more
pub record IsPut (buffer : Bytes) (page : Page) (line : Line) (after : Bytes) (r : Page) : Type 0 where
  pub size : length after ≡ length buffer
  pub roomy : Roomy r
  pub more : r.lines ≤ page.lines + 1
  pub cut : r.cut ≡ page.cut + line.cut
  pub sheet : (qs : List Portion) (s : Bytes) → Sheet buffer page qs → Lined line s → Sheet after r (qs ++ (record { text = s; lines = 1 } ∷ []))

abbrev pub AllFillable : List Row → Type 0
AllFillable rows = (d : Row) (k : ℕ) → k < 4 → RowFits (get_or rows k d)

-- four rows were laid, one after the other
pub record AreLaid (buffer : Bytes) (page : Page) (four : List Row) (after : Bytes) (r : Page) : Type 0 where
  pub size : length after ≡ length buffer
  pub roomy : Roomy r
  pub more : r.lines ≤ page.lines + 4
  pub cut : r.cut ≡ page.cut
  pub paged : (ls : List Bytes) (t : ℕ → Bytes) → Paged buffer page ls → ((d : Row) (k : ℕ) → k < 4 → RowHolds (get_or four k d) (t k)) → Paged after r (ls ++ (rows 1 (t 0) ++ (rows 1 (t 1) ++ (rows 1 (t 2) ++ rows 1 (t 3)))))

-- a page with room for n lines more, on a buffer for ten; of each line at most 8192 characters are cut
pub record Open (buffer : Bytes) (page : Page) (n : ℕ) : Type 0 where
  pub size : length buffer ≡ 370
  pub roomy : Roomy page
  pub more : page.lines + n ≤ 10
  pub cut_few : page.cut + 8192 * n ≤ 8192 * 10

-- portions were laid behind what lay on the page, on at most n lines
pub record IsFollowed (buffer : Bytes) (page : Page) (n : ℕ) (qs : List Portion) (after : Bytes) (r : Page) : Type 0 where
  pub size : length after ≡ length buffer
  pub roomy : Roomy r
  pub more : r.lines ≤ page.lines + n
  pub cut_few : r.cut ≤ page.cut + 8192 * n
  pub sheet : (ps : List Portion) → Sheet buffer page ps → Sheet after r (ps ++ qs)

-- of a draft, at the entry of a call and at its exit

-- portions were laid in its room, behind what lay on the page
abbrev pub IsLaidBehind : (draft : Both (MutBor Draft) (MutBor Draft)) → ℕ → List Portion → Type 0
IsLaidBehind draft n qs = IsFollowed draft.entry.now.room draft.entry.now.page n qs draft.exit.now.room draft.exit.now.page

-- those that a definition makes of a payload's lines
abbrev pub IsFollowedBy : (draft : Both (MutBor Draft) (MutBor Draft)) → ℕ → (List Bytes → List Portion) → (payload : Both (Bor Bytes) (Bor Bytes)) → Type 0
IsFollowedBy draft n part payload = IsLaidBehind draft n (part (lines_of (cut payload.entry.now)))

-- one line, of a text behind a prefix
abbrev pub IsTextLaid : (draft : Both (MutBor Draft) (MutBor Draft)) → (prefix text : Both (Bor Bytes) (Bor Bytes)) → Type 0
IsTextLaid draft prefix text = IsLaidBehind draft 1 (on_lines 1 (prefix.entry.now ++ text.entry.now) ∷ [])

-- one line, of a payload's line n behind a prefix
abbrev pub IsLineLaid : (draft : Both (MutBor Draft) (MutBor Draft)) → (prefix payload : Both (Bor Bytes) (Bor Bytes)) → ℕ → Type 0
IsLineLaid draft prefix payload n = IsFollowedBy draft 1 (λ ls. on_lines 1 (prefix.entry.now ++ line n ls) ∷ []) payload

-- field 70, of a kind of reference, the reference and the message
abbrev pub IsReferenceLaid : (draft : Both (MutBor Draft) (MutBor Draft)) → (kind reference message : Both (Bor Bytes) (Bor Bytes)) → Type 0
IsReferenceLaid draft kind reference message =
    IsLaidBehind draft 4 (remittance_of kind.entry.now reference.entry.now message.entry.now)

-- field 70 with the message from row `first` on, 0 or 1, and the characters s before it
abbrev pub remitted : ℕ → Bytes → Bytes → List Portion
remitted zero s m = record { text = m; lines = 4 } ∷ []
remitted (suc n) s m = record { text = s; lines = 1 } ∷ record { text = m; lines = 3 } ∷ []

-- it was laid behind what lay on the page
pub record IsRemitted (buffer : Bytes) (page : Page) (reference : Line) (first : ℕ) (text : Bytes) (after : Bytes) (r : Page) : Type 0 where
  pub follows : (s : Bytes) → Lined reference s → (first ≡ 0 → s ≡ []) → IsFollowed buffer page 4 (remitted first s (leads text)) after r

-- so of a draft, at the entry of a call and at its exit
abbrev pub IsRemittedOn : (draft : Both (MutBor Draft) (MutBor Draft)) → Line → ℕ → (message : Both (Bor Bytes) (Bor Bytes)) → Type 0
IsRemittedOn draft reference first message = IsRemitted draft.entry.now.room draft.entry.now.page reference first message.entry.now draft.exit.now.room draft.exit.now.page

-- a bill that the reader accepts under an edition
pub record Payable (p : Bytes) : Type 0 where
  pub edition : Edition
  pub kept : first (findings (swiss_in edition) p) ≡ none

-- all fields were laid, with CR LF after the last line too: the counts are theirs, and before those two bytes lie the contents
pub record AreMade (ls : List Bytes) (after : Bytes) (r : Counts) : Type 0 where
  pub size : length after ≡ 370
  pub counts : r ≡ counts_of ls
  pub laid : take r.bytes after ≡ contents ls
